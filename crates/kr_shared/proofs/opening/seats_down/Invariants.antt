use Rattle.std.proofs.Common.{◌≡◌, ◌+◌, ℕ, length, slice_get}
use Rattle.std.specs.Prelude.{Some}
use Rattle.std.specs.Arc.{arc_value}
use Rattle.kr_queue.specs.Passes.{AreClients}
use Rattle.kr_view.specs.Opened.{AreSeats}
use Rattle.kr_shared.specs.Clients.{Client, a_client}
use Rattle.kr_shared.proofs.opening.seats_down.Given as goal

abbrev pub invariant-loop-made : goal.invariant-loop-made
invariant-loop-made l = record {
  passes : AreClients (arc_value l.queue) l.passes.items;
  readers : AreSeats l.options l.readers.items;
  alike : length l.readers.items ≡ length l.passes.items;
  many : length l.made.items + length l.readers.items ≡ length l.fn.readers.items;
  seated : (k : ℕ) (s : Client) → slice_get l.made.items k ≡ Some s → s ≡ a_client l.options (length l.readers.items + k + 1);
}

abbrev pub decreases-loop-made : goal.decreases-loop-made
decreases-loop-made l = length l.readers.items
