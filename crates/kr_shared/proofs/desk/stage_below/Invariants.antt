use Rattle.std.proofs.Common.{◌≡◌, fold, length}
use Rattle.kr_view.specs.Shelves.{with_staged}
use Rattle.kr_view.specs.Staged.{staged_above, staged_below}
use Rattle.kr_shared.specs.Works.{KeepsShown}
use Rattle.kr_shared.proofs.desk.stage_below.Given as goal

abbrev pub invariant-loop-entry : goal.invariant-loop-entry
invariant-loop-entry l = record {
  same : fold with_staged l.publisher (staged_below l.end l.unstaged.items) ≡ fold with_staged l.fn.publisher (staged_below l.end l.fn.unstaged.items);
  left : staged_above l.end l.unstaged.items ≡ staged_above l.end l.fn.unstaged.items;
  keeps : KeepsShown l.fn.publisher l.publisher;
}

abbrev pub decreases-loop-entry : goal.decreases-loop-entry
decreases-loop-entry l = length l.unstaged.items
