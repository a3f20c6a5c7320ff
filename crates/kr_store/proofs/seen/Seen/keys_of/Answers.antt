use Rattle.std.proofs.Common.{subst}
use Rattle.std.specs.Option.{option_copied}
use Rattle.kr_defs.specs.Image.{Image}
use Rattle.kr_replicas.specs.BrokerPartitions.{AreAtLeast, has_replica, keys_or_none}
use Rattle.kr_store.proofs.seen.Seen.keys_of.Goals as goal

pub returns : goal.returns
returns g c = subst (λ (i : Image). AreAtLeast (keys_or_none (option_copied c.keys_of.result)) (has_replica c.args.broker.now) i.partitions) c.self.view_is (c.keys_of.ensures c.self.inside.at)
