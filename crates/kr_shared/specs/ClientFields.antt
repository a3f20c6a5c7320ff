-- The fields of a client's seat, as a clause sees them. This project's own.
use Rattle.std.specs.Prelude.{◌≡◌}
use Rattle.std.specs.Arc.{arc_value}
use Rattle.kr_queue.specs.declared.passes.Role.TheVariants as roles
use Rattle.kr_queue.specs.Passes.{view, IsPassOf}
use Rattle.kr_shared.specs.declared.clients.ClientSeat.TheInside.{Inside}
use Rattle.kr_shared.specs.Clients.{Client}

abbrev pub client_of : Inside → Client
client_of s = record { number = s.reader.number; seen = s.reader.seen; misses = s.reader.misses; ticket = s.ticket; pushed = (view s.pass).pushed; held = s.held }

-- its pass is that of its number
abbrev pub IsClientSeat : Inside → Type 0
IsClientSeat s = IsPassOf (arc_value s.queue) s.pass × ((view s.pass).role ≡ roles.Client s.reader.number)
