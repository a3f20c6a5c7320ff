use Rattle.std.proofs.Common.{◌≡◌, ◌++◌, length}
use Rattle.kr_view.specs.Staged.{staged_below, staged_above}
use Rattle.kr_view.proofs.publisher.choose_items.Given as goal

abbrev pub invariant-loop-entry : goal.invariant-loop-entry
invariant-loop-entry l = record {
  options : l.window.options ≡ l.fn.window.options;
  list : l.window.list ≡ l.fn.window.list;
  same : l.window.waiting ++ staged_below l.end l.items.items ≡ l.fn.window.waiting ++ staged_below l.end l.fn.items.items;
  left : staged_above l.end l.items.items ≡ staged_above l.end l.fn.items.items;
}

abbrev pub decreases-loop-entry : goal.decreases-loop-entry
decreases-loop-entry l = length l.items.items
