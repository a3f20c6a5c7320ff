use Rattle.std.proofs.Common.{◌≡◌, ◌-◌, ℤ, drop, length}
use Rattle.std.specs.Ordering.{int_cmp}
use Rattle.kr_defs.specs.Map.{get}
use Rattle.kr_topics.proofs.Assignments.{at_index}
use Rattle.kr_topics.proofs.assigning.by_index.Given as goal

abbrev pub invariant-loop-k : goal.invariant-loop-k
invariant-loop-k l = (index : ℤ) → get int_cmp l.those.entries index ≡ at_index (drop (length l.assignments - l.k) l.assignments) index
