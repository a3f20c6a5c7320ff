use Rattle.std.proofs.Common.{◌≡◌, ◌++◌, length}
use Rattle.kr_view.proofs.publisher.choose_notes.Given as goal

abbrev pub invariant-loop-entry : goal.invariant-loop-entry
invariant-loop-entry l = record {
  options : l.window.options ≡ l.fn.window.options;
  list : l.window.list ≡ l.fn.window.list;
  same : l.window.waiting ++ l.notes.items ≡ l.fn.window.waiting ++ l.fn.notes.items;
}

abbrev pub decreases-loop-entry : goal.decreases-loop-entry
decreases-loop-entry l = length l.notes.items
