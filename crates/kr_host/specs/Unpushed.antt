-- An event that wasn't pushed. This project's own.
use Rattle.kr_calls.specs.declared.events.Event.{Event}
use Rattle.kr_host.specs.declared.event_seat.Unpushed.{Unpushed}
use Rattle.kr_host.specs.declared.event_seat.Unpushed.TheVariants.{NoRoom, NoMemory}

abbrev pub event_back : Unpushed → Event
event_back (NoRoom event) = event
event_back (NoMemory event) = event
