-- How far a session was served, while it goes on.
use Rattle.std.specs.Prelude.{◌≡◌, ℕ, List, [], ◌∷◌, length, None, Option, Some, Result, MatchResult}
use Rattle.std.specs.List.{flat_map}
use Rattle.std.specs.Io.KnownBytes.{Consumes}
use Rattle.kr_wire.specs.Laws.{IsBytes}
use Rattle.kr_calls.specs.declared.events.Event.{Event}
use Rattle.kr_calls.specs.declared.events.Output.{Output}
use Rattle.kr_defs.specs.declared.options.Options.{Options}
use Rattle.kr_model.specs.declared.writes.Write.{Write}
use Rattle.kr_model.specs.Engine.{Core, Hands, IsEngine, IsStep}
use Rattle.kr_model.specs.Runs.{HandsAll, Runs}
use Rattle.kr_model.specs.Outputs.{outputs_of}
use Rattle.kr_model.specs.World.{State, start}
use Rattle.kr_stream.specs.declared.fault.StreamFault.{StreamFault}
use Rattle.kr_stream.specs.declared.fault.StreamFault.TheVariants as stops
use Rattle.kr_stream.specs.declared.fault.WriteFault.{WriteFault}
use Rattle.kr_stream.specs.declared.fault.WriteFault.TheVariants as faults
use Rattle.kr_stream.specs.Frames.{IsEvent}
use Rattle.kr_stream.specs.Reader.{Took}
use Rattle.kr_process.specs.declared.status.Status.{Status}
use Rattle.kr_process.specs.declared.status.Status.TheVariants as statuses
use Rattle.kr_session_loop.specs.Session.{Opened, HasRead}
use Rattle.kr_session_loop.specs.Endings.{EndsWith, WroteAll, WroteSome}

-- these outputs are handed out, one after the other
abbrev pub HandsSome : Core → List Output → Core → Type 0
HandsSome before [] after = after ≡ before
HandsSome before (output ∷ outputs) after = (next : Core) × Hands before next (Some output) × HandsSome next outputs after

-- these outputs are handed out, and then none
pub record Drains (before after : Core) (given : List Output) : Type 0 where
  pub last : Core
  pub all : HandsAll before given last
  pub none : Hands last after None

-- an event is taken, and its outputs are handed out and written
pub record Serves (before after : Core) (event : Event) (written written' : Option (List ℕ)) : Type 0 where
  pub stepped : Core
  pub given : List Output
  pub step : IsStep before stepped event
  pub drains : Drains stepped after given
  pub wrote : WroteAll written written' given

-- of the outputs of an event that is taken, some were written
abbrev pub WritesSomeOf : Core → Event → Option (List ℕ) → Option (List ℕ) → Type 0
WritesSomeOf engine event written written' =
    (state : State) (writes : List Write) → IsEngine engine state writes → WroteSome written written' (outputs_of engine.options state writes event)

-- Whole frames were taken up to this place, a new engine took their events and handed out these outputs, and the frames of the
-- outputs were written.
pub record Going (left left' written written' : Option (List ℕ)) (engine : Core) (at : ℕ) : Type 0 where
  pub options : Options
  pub events : List Event
  pub front : List ℕ
  pub read : HasRead (Opened options events) front
  pub bytes : IsBytes front
  pub place : at ≡ length front
  pub took : Consumes left left' front
  pub first : Core
  pub opened : first.options ≡ options
  pub begins : IsEngine first start []
  pub given : List (List Output)
  pub last : Core
  pub runs : Runs first events given last
  pub none : Hands last engine None
  pub wrote : WroteAll written written' (flat_map (λ outputs. outputs) given)

-- the session goes on, or ends with a status
abbrev pub SessionGoesOn : Option (List ℕ) → Option (List ℕ) → Option (List ℕ) → Option (List ℕ) → Core → ℕ → Result (Unit {0}) Status → Type 0
SessionGoesOn left left' written written' engine at result =
    MatchResult result (λ _. Going left left' written written' engine at) (λ status. EndsWith left left' written written' status)

-- a session whose next frame is this event goes on behind it, or ends
abbrev pub GoesOnWith : Event → Option (List ℕ) → Option (List ℕ) → Core → Core → Result (Unit {0}) Status → Type 0
GoesOnWith event written' written'' engine engine' result =
    (left mid left' written : Option (List ℕ)) (at end : ℕ) → Going left mid written written' engine at → Took (IsEvent event) mid left' at end
    → SessionGoesOn left left' written written'' engine' end result

-- a session that was served so far goes on from there, or ends
abbrev pub GoesOnFrom : Option (List ℕ) → Option (List ℕ) → Option (List ℕ) → Option (List ℕ) → Core → Core → ℕ → ℕ → Result (Unit {0}) Status → Type 0
GoesOnFrom mid mid' written' written'' engine engine' at at' result =
    (left written : Option (List ℕ)) → Going left mid written written' engine at
    → SessionGoesOn left mid' written written'' engine' at' result

-- the same to its end
abbrev pub EndsFrom : Option (List ℕ) → Option (List ℕ) → Option (List ℕ) → Option (List ℕ) → Core → ℕ → Status → Type 0
EndsFrom mid mid' written' written'' engine at status =
    (left written : Option (List ℕ)) → Going left mid written written' engine at
    → EndsWith left mid' written written'' status

-- the status of a frame that isn't read
abbrev pub unread_status : StreamFault → Status
unread_status (stops.Malformed at) = statuses.Malformed at
unread_status stops.ReadFault = statuses.ReadFault
unread_status stops.NoMemory = statuses.NoMemory
unread_status stops.TooLong = statuses.TooLong

-- the status of an output that isn't written
abbrev pub unwritten_status : WriteFault → Status
unwritten_status faults.Failed = statuses.WriteFault
unwritten_status faults.NoMemory = statuses.NoMemory
