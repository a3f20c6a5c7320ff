use Rattle.std.proofs.Common.{subst, ℕ, ℤ}
use Rattle.kr_defs.specs.declared.partition.Partition.{Partition}
use Rattle.kr_replicas.specs.BrokerPartitions.{AreAtLeast, has_standing_by}
use Rattle.kr_timeline.specs.History.{History}
use Rattle.kr_image.specs.inner.PartitionKeys.{InAll}
use Rattle.kr_image.proofs.PartitionLists.{standing_listed}
use Rattle.kr_image.proofs.partition_timeline.PartitionTimeline.standing_keys.Goals as goal

pub returns : goal.returns
returns c =
    subst (λ (h : History (ℕ × ℤ) Partition). InAll (AreAtLeast c.self.inside.index.standing has_standing_by) h.maps) c.self.view_is
    (standing_listed c.self.inside.index c.self.inside.timeline.maps c.self.invariant)
