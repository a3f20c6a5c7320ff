use Rattle.std.proofs.Common.{◌≡◌, ◌≤◌, fold, length}
use Rattle.std.specs.VecDeque.{deque_capacity, deque_len}
use Rattle.kr_view.specs.Shelves.{with_staged}
use Rattle.kr_shared.specs.Lines.{entries_of}
use Rattle.kr_shared.specs.Works.{KeepsShown}
use Rattle.kr_shared.proofs.line.stage_all.Given as goal

abbrev pub invariant-loop-note : goal.invariant-loop-note
invariant-loop-note l = record {
  same : fold with_staged l.publisher (entries_of l.due.items) ≡ fold with_staged l.fn.publisher (entries_of l.fn.due.items);
  keeps : KeepsShown l.fn.publisher l.publisher;
  fewer : deque_len l.due ≤ deque_len l.fn.due;
  capacity : deque_capacity l.due ≡ deque_capacity l.fn.due;
}

abbrev pub decreases-loop-note : goal.decreases-loop-note
decreases-loop-note l = length l.due.items
