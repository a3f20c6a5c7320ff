use Rattle.std.proofs.Common.{subst, ℕ, ℤ}
use Rattle.std.specs.Option.{option_copied}
use Rattle.kr_defs.specs.declared.partition.Partition.{Partition}
use Rattle.kr_replicas.specs.BrokerPartitions.{AreAtLeast, has_replica, keys_or_none}
use Rattle.kr_timeline.specs.History.{History}
use Rattle.kr_image.specs.inner.PartitionKeys.{InAll}
use Rattle.kr_image.proofs.PartitionLists.{looked_up}
use Rattle.kr_image.proofs.partition_timeline.PartitionTimeline.keys_of.Goals as goal

pub returns : goal.returns
returns c =
    let keys = option_copied c.keys_of.result in
    subst (λ (h : History (ℕ × ℤ) Partition). InAll (AreAtLeast (keys_or_none keys) (has_replica c.args.broker.now)) h.maps) c.self.view_is
    (looked_up c.self.inside.index c.args.broker.now keys c.self.inside.timeline.maps c.self.invariant c.keys_of.ensures)
