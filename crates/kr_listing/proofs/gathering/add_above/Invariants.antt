use Rattle.std.proofs.Common.{◌≡◌, ◌++◌, length}
use Rattle.std.specs.List.{flat_map}
use Rattle.kr_listing.proofs.WalkGathering.{left}
use Rattle.kr_listing.proofs.gathering.add_above.Given as goal

abbrev pub invariant-loop-key : goal.invariant-loop-key
invariant-loop-key g l =
    let partitions = l.seen.partitions in
    let part = g.P.PartitionPart.part l.part in
    l.rows ++ flat_map part (left partitions l.after) ≡ l.fn.rows ++ flat_map part (left partitions l.fn.first)

abbrev pub decreases-loop-key : goal.decreases-loop-key
decreases-loop-key g l = length (left l.seen.partitions l.after)
