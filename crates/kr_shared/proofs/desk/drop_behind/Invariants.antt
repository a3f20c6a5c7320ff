use Rattle.std.proofs.Common.{◌≡◌, length}
use Rattle.kr_shared.specs.inner.Dropping.{up_to_below}
use Rattle.kr_shared.proofs.desk.drop_behind.Given as goal

abbrev pub invariant-loop-entry : goal.invariant-loop-entry
invariant-loop-entry l = record {
  left : up_to_below l.end l.entries.items ≡ up_to_below l.end l.fn.entries.items;
}

abbrev pub decreases-loop-entry : goal.decreases-loop-entry
decreases-loop-entry l = length l.entries.items
