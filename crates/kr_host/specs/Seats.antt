-- What is pushed at the link's seat, and what the worker took. This project's own.
use Rattle.std.specs.Prelude.{◌≡◌, ℕ, cond, List, [], ◌∷◌, ◌++◌, IsTrue, Option, Some, None}
use Rattle.kr_calls.specs.declared.events.Event.{Event}
use Rattle.kr_queue.specs.declared.jobs.Job.TheVariants as jobs
use Rattle.kr_flow.specs.declared.room.Origin.{Origin}
use Rattle.kr_flow.specs.declared.room.Waiting.{Waiting}
use Rattle.kr_flow.specs.Rooms.{has_room_for, is_of_quorum, room_noted, noted_first}
use Rattle.kr_host.specs.Seated.{Seated}
use Rattle.kr_host.specs.Weights.{waiting_of}

-- the event had room, and is the last one that was pushed and the last one that waits
pub record IsPushed (old new : Seated) (event : Event) (origin : Origin) : Type 0 where
  pub room : IsTrue (has_room_for old.flow.waiting (waiting_of origin event).bytes)
  pub after : new ≡ record { pushed = old.pushed ++ jobs.Link event ∷ []; flow = record old.flow { waiting = old.flow.waiting ++ waiting_of origin event ∷ [] } }

-- the number among the quorum's of one of its events
abbrev pub number_told : Option Waiting → ℕ → Option ℕ
number_told (Some event) number = cond (is_of_quorum event) (Some number) None
number_told None number = None

-- the worker took so many: which of the quorum's events is the one more, if it is one of them
abbrev pub number_noted : Seated → ℕ → Option ℕ
number_noted seated events = number_told (noted_first seated.flow events) (room_noted seated.flow events).of_quorum
