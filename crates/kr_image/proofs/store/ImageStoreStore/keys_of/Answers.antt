use Rattle.std.proofs.Common.{subst}
use Rattle.std.specs.Option.{option_copied}
use Rattle.kr_replicas.specs.BrokerPartitions.{has_replica, keys_or_none}
use Rattle.kr_store.specs.Images.{Images}
use Rattle.kr_store.specs.Reads.{AreAtLeastEverywhere}
use Rattle.kr_image.proofs.PartitionLists.{everywhere}
use Rattle.kr_image.proofs.store.ImageStoreStore.keys_of.Goals as goal

pub returns : goal.returns
returns c =
    let keys = keys_or_none (option_copied c.keys_of.result) in
    let test = has_replica c.args.broker.now in
    subst (λ (i : Images). AreAtLeastEverywhere keys test i) c.self.view_is (everywhere keys test c.self.inside.timelines c.self.inside.kept.items c.self.inside.begun c.keys_of.ensures)
