use Rattle.std.proofs.Common.{ℕ, ℤ, length, map, Some}
use Rattle.kr_defs.specs.declared.partition.Partition.{Partition}
use Rattle.kr_defs.specs.Map.{above, partition_order}
use Rattle.kr_defs.specs.Walk.{of_topic, walked}
use Rattle.kr_view.proofs.Filling.{IsFilling}
use Rattle.kr_view.proofs.listing.list_above.Given as goal

abbrev pub invariant-loop-key : goal.invariant-loop-key
invariant-loop-key g l =
    let ps = l.seen.partitions in
    let row = λ (e : (ℕ × ℤ) × Partition). g.P.Listing.rows l.listing (walked l.name e) in
    IsFilling l.most l.fn.rows (map row (of_topic l.fn.first.0 (above partition_order ps (Some l.fn.first)))) l.rows (map row (of_topic l.after.0 (above partition_order ps (Some l.after))))

abbrev pub decreases-loop-key : goal.decreases-loop-key
decreases-loop-key g l = length (of_topic l.after.0 (above partition_order l.seen.partitions (Some l.after)))
