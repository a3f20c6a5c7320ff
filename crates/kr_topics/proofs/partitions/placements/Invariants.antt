use Rattle.std.proofs.Common.{◌≡◌, ◌++◌, ◌+◌, ◌-◌, ℕ, map}
use Rattle.std.specs.List.{range_with_len}
use Rattle.kr_place.specs.Placing.{placed_in}
use Rattle.kr_topics.proofs.partitions.placements.Given as goal

abbrev pub invariant-loop-index : goal.invariant-loop-index
invariant-loop-index l =
    let at = λ (index : ℕ). placed_in l.those (l.start + index) l.factor in
    l.lists ++ map at (range_with_len l.index (l.first + l.count - l.index)) ≡ map at (range_with_len l.first l.count)
