-- The fields of a reader's seat, as a clause sees them. This project's own.
use Rattle.kr_view.specs.declared.seat.ReaderSeat.TheInside.{Inside}
use Rattle.kr_view.specs.Edges.{seen_by}
use Rattle.kr_view.specs.Seats.{Seat}

abbrev pub seat_of : Inside → Seat
seat_of s = record { number = s.number; seen = seen_by s.held.edge; misses = s.held.edge.misses }
