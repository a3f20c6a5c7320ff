-- What an event of the link takes while it waits. This project's own.
use Rattle.std.specs.Prelude.{ℕ, ◌+◌, length}
use Rattle.kr_calls.specs.declared.events.Event.{Event}
use Rattle.kr_calls.specs.declared.events.Event.TheVariants as events
use Rattle.kr_flow.specs.declared.room.Origin.{Origin}
use Rattle.kr_flow.specs.declared.room.Waiting.{Waiting}

-- the bytes of its batch or its image
abbrev pub brought : Event → ℕ
brought (events.Batch bytes) = length bytes
brought (events.Load bytes) = length bytes
brought event = 0

-- those, and 256 for its place among the jobs
abbrev pub waiting_of : Origin → Event → Waiting
waiting_of origin event = record { origin = origin; bytes = brought event + 256 }
