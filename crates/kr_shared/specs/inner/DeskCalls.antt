-- What the calls of a desk do, by what it comes to, and by what a quorum and a clock tell. This project's own.
use Rattle.std.specs.Prelude.{◌≡◌, ℕ, ℤ, int_lt, List, Option}
use Rattle.kr_calls.specs.declared.calls.Call.{Call}
use Rattle.kr_calls.specs.declared.events.Event.{Event}
use Rattle.kr_calls.specs.declared.events.Reason.{Reason}
use Rattle.kr_queue.specs.declared.jobs.Job.{Job}
use Rattle.kr_shared.specs.declared.answers.Asking.{Asking}
use Rattle.kr_shared.specs.declared.desk.Caller.{Caller}
use Rattle.kr_shared.specs.declared.desk.Served.{Served}
use Rattle.kr_shared.specs.Desks.{DeskState, IsCaughtUp, settled}
use Rattle.kr_shared.specs.Serves.{ServesEvent}
use Rattle.kr_shared.specs.Turns.{DoesJob, DoesRequest, DoesWhole, DoesWrite, NotesUnlessAhead, Outside, pin_entry}

module _ {Q : Type 0} (pieces : Q → Option (List (List ℕ))) (faults : Q → ℕ) where
  -- an event is served
  abbrev pub DeskServes : Q → Q → DeskState → DeskState → Event → Option Asking → Served → Type 0
  DeskServes quorum quorum' old new event asking served =
      ServesEvent (pieces quorum) (pieces quorum') (faults quorum) (faults quorum') (settled old) (settled new) event asking served.appended served.refusal

  -- and where an append failed the led leadership is lost
  abbrev pub DeskServesWhole : Q → Q → DeskState → DeskState → Event → Option Asking → Option Reason → Type 0
  DeskServesWhole quorum quorum' old new event asking refusal =
      DoesWhole (pieces quorum) (pieces quorum') (faults quorum) (faults quorum') (settled old) (settled new) event asking refusal

  -- a client's request is served so, at the time
  abbrev pub DeskServesRequest : Q → Q → DeskState → DeskState → Caller → ℤ → Call → Type 0
  DeskServesRequest quorum quorum' old new c now call = DoesRequest (pieces quorum) (pieces quorum') (faults quorum) (faults quorum') (settled old) (settled new) c now call

  -- what was given comes back, and all is as before
  abbrev pub ComesBack : {X : Type 0} → X → X → Q → Q → DeskState → DeskState → Type 0
  ComesBack refused given quorum quorum' old new = (refused ≡ given) × (new ≡ old) × (pieces quorum' ≡ pieces quorum) × (faults quorum' ≡ faults quorum)

  -- it comes back, and the desk comes to the same as before, with nothing due
  abbrev pub ComesBackCaughtUp : {X : Type 0} → X → X → Q → Q → DeskState → DeskState → Type 0
  ComesBackCaughtUp refused given quorum quorum' old new =
      (refused ≡ given) × (settled new ≡ settled old) × IsCaughtUp new × (pieces quorum' ≡ pieces quorum) × (faults quorum' ≡ faults quorum)

-- a client's write, answered at once where the client has seen more than the log
abbrev pub DeskWrites : Outside → DeskState → DeskState → Caller → Call → Type 0
DeskWrites o old new c call = DoesWrite (int_lt old.engine.tip c.floor) o (settled old) (settled new) c.seat c.ticket c.floor call

-- a client's pin of the closed end, answered so too
abbrev pub DeskPins : DeskState → DeskState → Caller → Type 0
DeskPins old new c =
    NotesUnlessAhead (int_lt old.engine.tip c.floor) (settled old) (settled new) c.seat c.ticket (pin_entry c.seat c.ticket old.engine.closed)

-- a job
abbrev pub DeskDoesJob : Outside → DeskState → DeskState → Job → Option Reason → Type 0
DeskDoesJob o old new job refusal = DoesJob o (settled old) (settled new) job refusal
