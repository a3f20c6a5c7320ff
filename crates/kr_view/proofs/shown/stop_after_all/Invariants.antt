use Rattle.std.proofs.Common.{◌≡◌, drop, fold}
use Rattle.kr_calls.specs.SeatList.{stop_with}
use Rattle.kr_view.proofs.shown.stop_after_all.Given as goal

abbrev pub invariant-loop-entry : goal.invariant-loop-entry
invariant-loop-entry l = fold stop_with l.first (drop l.entry-index l.entries) ≡ fold stop_with l.fn.stop l.entries
