use Rattle.std.proofs.Common.{◌≡◌}
use Rattle.std.specs.Prelude.{Option, Some}
use Rattle.kr_calls.specs.declared.pins.Pin.{Pin}
use Rattle.kr_server.specs.SeatCalls.{AsksForPages, holder}
use Rattle.kr_server.specs.inner.Paging.{HasPlaceLeft, IsPinPlace, IsReadyFor, KeepsPlaces}
use Rattle.kr_server.proofs.describing.describe_page.Given as goal

abbrev pub invariant-loop : goal.invariant-loop
invariant-loop g l = record {
  held : l.paging.held ≡ Some l.place;
  room : HasPlaceLeft l.seat.held l.paging.held;
  places : KeepsPlaces l.fn.seat l.fn.paging.held l.seat l.paging.held;
  asks : AsksForPages l.fn.seat l.seat;
  ready : (pin : Option Pin) → IsPinPlace l.fn.paging.held (holder l.fn.seat pin) → IsReadyFor l.fn.describe.cursor (holder l.fn.seat pin) l.seat l.place;
}
