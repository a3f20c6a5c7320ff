use Rattle.std.proofs.Common.{◌≡◌, ◌++◌, length}
use Rattle.kr_shared.proofs.desk.join.Given as goal

abbrev pub invariant-loop-entry : goal.invariant-loop-entry
invariant-loop-entry l = record {
  same : l.unstaged.items ++ l.fresh.items ≡ l.fn.unstaged.items ++ l.fn.fresh.items;
}

abbrev pub decreases-loop-entry : goal.decreases-loop-entry
decreases-loop-entry l = length l.fresh.items
