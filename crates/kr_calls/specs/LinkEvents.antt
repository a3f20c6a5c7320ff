-- Which events a link brings: what comes of the quorum and of the clock. This project's own.
use Rattle.std.specs.Prelude.{Bool, true, false}
use Rattle.kr_calls.specs.declared.events.Event.{Event}
use Rattle.kr_calls.specs.declared.events.Event.TheVariants as events

-- requests come as writes of clients, and the image isn't asked for through the queue
abbrev pub is_link_event : Event → Bool
is_link_event (events.Request client now ask) = false
is_link_event events.Image = false
is_link_event event = true
