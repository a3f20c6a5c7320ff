use Rattle.std.proofs.Common.{subst}
use Rattle.kr_replicas.specs.BrokerPartitions.{has_standing_by}
use Rattle.kr_store.specs.Images.{Images}
use Rattle.kr_store.specs.Reads.{AreAtLeastEverywhere}
use Rattle.kr_image.proofs.PartitionLists.{everywhere}
use Rattle.kr_image.proofs.store.ImageStoreStore.standing_keys.Goals as goal

pub returns : goal.returns
returns c =
    let keys = c.standing_keys.result.now in
    subst (λ (i : Images). AreAtLeastEverywhere keys has_standing_by i) c.self.view_is (everywhere keys has_standing_by c.self.inside.timelines c.self.inside.kept.items c.self.inside.begun c.standing_keys.ensures)
