use Rattle.std.proofs.Common.{◌≡◌, ◌++◌, length}
use Rattle.kr_shared.proofs.opening.in_rows.Given as goal

abbrev pub invariant-loop-seat : goal.invariant-loop-seat
invariant-loop-seat l = l.rows ++ l.seats.items ≡ l.initial.seats.items

abbrev pub decreases-loop-seat : goal.decreases-loop-seat
decreases-loop-seat l = length l.seats.items
