-- The abstract controller: a fold over events (after KIP-631's QuorumController).
use Rattle.std.specs.Prelude.{ℕ, ℤ, ◌+◌, ◌-◌, ◌^◌, min, List, fold, Result, Ok}
use Rattle.std.specs.Int.{int_max}
use Rattle.std.specs.Result.{result_unwrap_or}
use Rattle.kr_calls.specs.declared.events.Event.{Event}
use Rattle.kr_calls.specs.declared.events.Reason.{Reason}
use Rattle.kr_calls.specs.declared.events.Event.TheVariants as events
use Rattle.kr_defs.specs.declared.basis.Basis.{Basis}
use Rattle.kr_defs.specs.declared.options.Options.{Options}
use Rattle.kr_model.specs.Commit.{commit}
use Rattle.kr_model.specs.Lead.{lead}
use Rattle.kr_model.specs.Lost.{lost}
use Rattle.kr_model.specs.Batch.{batch}
use Rattle.kr_model.specs.Load.{load}
use Rattle.kr_model.specs.Request.{request}
use Rattle.kr_model.specs.Tick.{tick}
use Rattle.kr_model.specs.World.{World, State, start}

-- the greatest time of any event
abbrev pub time_after : ℤ → Event → ℤ
time_after time (events.Lead epoch next now) = int_max time now
time_after time (events.Tick now) = int_max time now
time_after time (events.Request client now ask) = int_max time now
time_after time other = time

abbrev pub at_time_of : State → Event → State
at_time_of s event = record s { basis = record s.basis { time = time_after s.basis.time event } }

-- what an event makes of what is kept, at its time; or the first reason why it changes nothing
abbrev pub outcome : Options → State → Event → Result State Reason
outcome options s (events.Lead epoch next now) = lead s epoch next
outcome options s (events.Commit epoch end) = commit s epoch end
outcome options s (events.Lost epoch) = lost s epoch
outcome options s (events.Batch bytes) = batch s bytes
outcome options s (events.Load bytes) = load s bytes
outcome options s (events.Tick now) = tick options s
outcome options s (events.Request client now ask) = request options s ask
outcome options s events.Image = Ok s

-- the number of an event, which stays at the greatest of 64 bits
abbrev pub next_number : ℕ → ℕ
next_number count = min (count + 1) (2 ^ 64 - 1)

abbrev pub with_next_number : State → State
with_next_number s = record s { world = record s.world { count = next_number s.world.count } }

-- after one event more; one that is refused changes the greatest time and the number of events alone
abbrev pub happens : Options → State → Event → State
happens options s event = with_next_number (result_unwrap_or (outcome options (at_time_of s event) event) (at_time_of s event))

abbrev pub state : Options → List Event → State
state options past = fold (happens options) start past

abbrev pub world : Options → List Event → World
world options past = (state options past).world

abbrev pub basis : Options → List Event → Basis
basis options past = (state options past).basis
