use Rattle.std.proofs.Common.{subst}
use Rattle.kr_defs.specs.Image.{Image}
use Rattle.kr_replicas.specs.BrokerPartitions.{AreAtLeast, has_standing_by}
use Rattle.kr_store.proofs.seen.Seen.standing_keys.Goals as goal

pub returns : goal.returns
returns g c = subst (λ (i : Image). AreAtLeast c.standing_keys.result.now has_standing_by i.partitions) c.self.view_is (c.standing_keys.ensures c.self.inside.at)
