use Rattle.std.proofs.Common.{◌≡◌, drop, fold}
use Rattle.kr_calls.specs.SeatList.{lower}
use Rattle.kr_view.proofs.pins.Pins.oldest.Given as goal

abbrev pub invariant-loop-pin : goal.invariant-loop-pin
invariant-loop-pin l = fold lower l.oldest (drop l.pin-index l.pins) ≡ fold lower l.end l.pins
