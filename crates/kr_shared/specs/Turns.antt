-- What a turn does. This project's own.
use Rattle.std.specs.Prelude.{◌≡◌, ◌⊎◌, ℕ, ℤ, int_lt, Bool, true, false, List, [], ◌∷◌, ◌++◌, Option, Some, None}
use Rattle.kr_base.specs.Causes.{Rose, raised}
use Rattle.kr_calls.specs.declared.answers.AnswerKind.TheVariants as kinds
use Rattle.kr_calls.specs.declared.calls.Ask.{Ask}
use Rattle.kr_calls.specs.declared.calls.Ask.TheVariants as asks
use Rattle.kr_calls.specs.declared.calls.Call.{Call}
use Rattle.kr_calls.specs.declared.events.Entry.{Entry}
use Rattle.kr_calls.specs.declared.events.Event.{Event}
use Rattle.kr_calls.specs.declared.events.Reason.{Reason}
use Rattle.kr_calls.specs.declared.events.Entry.TheVariants as entries
use Rattle.kr_calls.specs.declared.events.Event.TheVariants as events
use Rattle.kr_queue.specs.declared.jobs.Job.{Job}
use Rattle.kr_queue.specs.declared.jobs.Job.TheVariants as jobs
use Rattle.kr_queue.specs.declared.passes.View.{View}
use Rattle.kr_queue.specs.Steps.{Holds, IsPop}
use Rattle.kr_model.specs.declared.writes.Write.{Write}
use Rattle.kr_model.specs.World.{State}
use Rattle.kr_shared.specs.declared.answers.Asking.{Asking}
use Rattle.kr_shared.specs.declared.desk.Caller.{Caller}
use Rattle.kr_shared.specs.declared.worker.Turn.{Turn}
use Rattle.kr_shared.specs.declared.worker.Turn.TheVariants as turns
use Rattle.kr_shared.specs.Answers.{bare_answer}
use Rattle.kr_shared.specs.Serves.{ServesEvent}
use Rattle.kr_shared.specs.Standing.{Standing}
use Rattle.kr_shared.specs.Tasks.{asking_of}
use Rattle.kr_shared.specs.Works.{DeskView}
use Rattle.kr_view.specs.CopiesRule.{GoesOn}

-- what a turn finds and leaves outside: the quorum's pieces, where it tells them, and how many appends failed; how often the
-- clock was asked, and what it said last
pub record Outside : Type 0 where
  pub pieces : Option (List (List ℕ))
  pub pieces' : Option (List (List ℕ))
  pub faults : ℕ
  pub faults' : ℕ
  pub asks : ℕ
  pub asks' : ℕ
  pub last : ℤ

-- that of a quorum and a clock, by what they tell
abbrev pub outside : {Q C : Type 0} → (Q → Option (List (List ℕ))) → (Q → ℕ) → (C → ℕ) → (C → ℤ) → Q → Q → C → C → Outside
outside pieces faults asks last quorum quorum' clock clock' = record {
  pieces = pieces quorum;
  pieces' = pieces quorum';
  faults = faults quorum;
  faults' = faults quorum';
  asks = asks clock;
  asks' = asks clock';
  last = last clock';
}

-- nothing was appended
abbrev pub IsQuiet : Outside → Type 0
IsQuiet o = (o.pieces' ≡ o.pieces) × (o.faults' ≡ o.faults)

-- ---- an event, and the loss of the leadership where an append failed

pub record Loses (pieces pieces' : Option (List (List ℕ))) (faults faults' : ℕ) (old new : DeskView) (epoch : ℤ) : Type 0 where
  pub appended : Bool
  pub refusal : Option Reason
  pub serves : ServesEvent pieces pieces' faults faults' old new (events.Lost epoch) None appended refusal

abbrev pub LosesLed : Option (List (List ℕ)) → Option (List (List ℕ)) → ℕ → ℕ → DeskView → DeskView → Option ℤ → Type 0
LosesLed pieces pieces' faults faults' old new None = (new ≡ old) × (pieces' ≡ pieces) × (faults' ≡ faults)
LosesLed pieces pieces' faults faults' old new (Some epoch) = Loses pieces pieces' faults faults' old new epoch

-- where an append failed, the led leadership is lost
abbrev pub LosesUnless : Bool → Option (List (List ℕ)) → Option (List (List ℕ)) → ℕ → ℕ → DeskView → DeskView → Type 0
LosesUnless true pieces pieces' faults faults' old new = (new ≡ old) × (pieces' ≡ pieces) × (faults' ≡ faults)
LosesUnless false pieces pieces' faults faults' old new = LosesLed pieces pieces' faults faults' old new old.engine.leading

pub record DoesWhole (pieces pieces' : Option (List (List ℕ))) (faults faults' : ℕ) (old new : DeskView) (event : Event) (asking : Option Asking) (refusal : Option Reason) : Type 0 where
  pub between : DeskView
  pub pieces_then : Option (List (List ℕ))
  pub faults_then : ℕ
  pub appended : Bool
  pub serves : ServesEvent pieces pieces_then faults faults_then old between event asking appended refusal
  pub loses : LosesUnless appended pieces_then pieces' faults_then faults' between new

-- ---- jobs

-- the entry is published at once
pub record Notes (old new : DeskView) (e : Entry) : Type 0 where
  pub is : new ≡ record old { shelf = record old.shelf { list = old.shelf.list ++ e ∷ [] } }
  pub stands : (s : State) (writes : List Write) → Standing old s writes → Standing new s writes

-- the client's request is served, at the time
abbrev pub DoesRequest : Option (List (List ℕ)) → Option (List (List ℕ)) → ℕ → ℕ → DeskView → DeskView → Caller → ℤ → Call → Type 0
DoesRequest pieces pieces' faults faults' old new c now call =
    (refusal : Option Reason)
    × DoesWhole pieces pieces' faults faults' old new (events.Request c.seat now (asks.Call call)) (Some (asking_of old.engine c.seat c.ticket c.floor now)) refusal

-- a write of a client that has seen more than the log is answered so; else it is a request, at the time that the clock says
abbrev pub DoesWrite : Bool → Outside → DeskView → DeskView → ℕ → ℕ → ℤ → Call → Type 0
DoesWrite true o old new seat ticket floor call = IsQuiet o × Notes old new (entries.Answer (bare_answer seat ticket old.engine.tip kinds.Ahead))
DoesWrite false o old new seat ticket floor call =
    Rose o.asks o.asks' × DoesRequest o.pieces o.pieces' o.faults o.faults' old new (record { seat = seat; ticket = ticket; floor = floor }) o.last call

-- a pin or an unpin of a client that has seen more than the log is answered so; else it is published
abbrev pub NotesUnlessAhead : Bool → DeskView → DeskView → ℕ → ℕ → Entry → Type 0
NotesUnlessAhead true old new seat ticket e = Notes old new (entries.Answer (bare_answer seat ticket old.engine.tip kinds.Ahead))
NotesUnlessAhead false old new seat ticket e = Notes old new e

abbrev pub pin_entry : ℕ → ℕ → ℤ → Entry
pin_entry seat ticket place = entries.Pin (record { seat = seat; ticket = ticket; place = place })

abbrev pub unpin_entry : ℕ → ℕ → ℤ → Entry
unpin_entry seat ticket place = entries.Unpin (record { seat = seat; ticket = ticket; place = place })

-- the closed end is pinned; an unpin is of the job's place
abbrev pub DoesJob : Outside → DeskView → DeskView → Job → Option Reason → Type 0
DoesJob o old new (jobs.Link event) refusal = DoesWhole o.pieces o.pieces' o.faults o.faults' old new event None refusal
DoesJob o old new (jobs.Stop number) refusal = (refusal ≡ None) × IsQuiet o × Notes old new (entries.Stop number)
DoesJob o old new (jobs.Write seat ticket floor call) refusal = (refusal ≡ None) × DoesWrite (int_lt old.engine.tip floor) o old new seat ticket floor call
DoesJob o old new (jobs.Pin seat ticket floor) refusal =
    (refusal ≡ None) × IsQuiet o × NotesUnlessAhead (int_lt old.engine.tip floor) old new seat ticket (pin_entry seat ticket old.engine.closed)
DoesJob o old new (jobs.Unpin seat ticket floor place) refusal =
    (refusal ≡ None) × IsQuiet o × NotesUnlessAhead (int_lt old.engine.tip floor) old new seat ticket (unpin_entry seat ticket place)

-- the client's job, and that from which an event was made
abbrev pub write_job : Caller → Call → Job
write_job c call = jobs.Write c.seat c.ticket c.floor call

abbrev pub job_of_ask : ℕ → ℕ → ℤ → Event → Ask → Job
job_of_ask seat ticket floor event (asks.Call call) = jobs.Write seat ticket floor call
job_of_ask seat ticket floor event (asks.Bare correlation fault) = jobs.Link event

abbrev pub job_again : ℕ → ℕ → ℤ → Event → Job
job_again seat ticket floor (events.Request client now ask) = job_of_ask seat ticket floor (events.Request client now ask) ask
job_again seat ticket floor other = jobs.Link other

-- ---- turns

-- what the worker's pass knows, what its work comes to once all that is due is published, the published list, a job that stays,
-- how many events of the link were taken, why that of the last turn was refused, whether a stop came, and whether something is due
pub record Bench : Type 0 where
  pub knows : View
  pub work : DeskView
  pub shown : List Entry
  pub stays : Option Job
  pub events : ℕ
  pub refusal : Option Reason
  pub stopped : Bool
  pub late : Bool

abbrev pub turn_of : Job → Turn
turn_of (jobs.Link event) = turns.Did
turn_of (jobs.Stop number) = turns.Stopped
turn_of (jobs.Write seat ticket floor call) = turns.Did
turn_of (jobs.Pin seat ticket floor) = turns.Did
turn_of (jobs.Unpin seat ticket floor place) = turns.Did

abbrev pub is_stop : Job → Bool
is_stop (jobs.Link event) = false
is_stop (jobs.Stop number) = true
is_stop (jobs.Write seat ticket floor call) = false
is_stop (jobs.Pin seat ticket floor) = false
is_stop (jobs.Unpin seat ticket floor place) = false

-- the number stands still at the greatest u64
abbrev pub events_with : ℕ → Job → ℕ
events_with events (jobs.Link event) = raised events
events_with events (jobs.Stop number) = events
events_with events (jobs.Write seat ticket floor call) = events
events_with events (jobs.Pin seat ticket floor) = events
events_with events (jobs.Unpin seat ticket floor place) = events

-- the job stayed from an earlier turn, or is popped
abbrev pub TakesUp : Option Job → View → Job → View → Type 0
TakesUp (Some stays) before job now = (job ≡ stays) × (now ≡ before)
TakesUp None before job now = IsPop before job now

-- all that was due is published, and nothing else is changed
abbrev pub caught_up : Bench → Bench
caught_up b = record b { shown = b.work.shelf.list; refusal = None; late = false }

-- a job that was taken up is done
pub record IsDone (o : Outside) (old new : Bench) (job : Job) : Type 0 where
  pub knows : new.knows ≡ old.knows
  pub does : DoesJob o old.work new.work job new.refusal
  pub events : new.events ≡ events_with old.events job
  pub stopped : new.stopped ≡ is_stop job
  pub stays : new.stays ≡ old.stays

-- and all of it is published
pub record IsDoneWhole (o : Outside) (old new : Bench) (job : Job) : Type 0 where
  pub done : IsDone o old new job
  pub shown : new.shown ≡ new.work.shelf.list
  pub late : new.late ≡ false

-- as the turn tells
abbrev pub IsTurnOf : Outside → Bench → Bench → Job → Turn → Type 0
IsTurnOf o old new job turn = (turn ≡ turn_of job) × IsDoneWhole o old new job

-- or it stays
pub record IsPutOff (o : Outside) (old new : Bench) (job : Job) : Type 0 where
  pub work : new.work ≡ old.work
  pub knows : new.knows ≡ old.knows
  pub stays : new.stays ≡ Some job
  pub events : new.events ≡ old.events
  pub refusal : new.refusal ≡ old.refusal
  pub stopped : new.stopped ≡ old.stopped
  pub quiet : IsQuiet o

-- the published list goes on, and what is due comes behind it
pub record GoesOnLate (old new : Bench) : Type 0 where
  pub onwards : GoesOn new.shown old.shown
  pub due : GoesOn new.work.shelf.list new.shown

pub record StaysLate (old new : Bench) : Type 0 where
  pub same : new ≡ record old { shown = new.shown }
  pub goes : GoesOnLate old new

pub record IsDoneLate (o : Outside) (old new : Bench) (job : Job) : Type 0 where
  pub either : IsDone o old new job ⊎ IsPutOff o old new job
  pub goes : GoesOnLate old new

-- the job was taken up and done
pub record Works (o : Outside) (old new : Bench) (job : Job) : Type 0 where
  pub going : old.stopped ≡ false
  pub taken : TakesUp old.stays old.knows job new.knows
  pub does : DoesJob o old.work new.work job new.refusal
  pub events : new.events ≡ events_with old.events job
  pub stopped : new.stopped ≡ is_stop job
  pub stays : new.stays ≡ None

-- and all is published
pub record WorksWhole (o : Outside) (old new : Bench) (job : Job) : Type 0 where
  pub works : Works o old new job
  pub shown : new.shown ≡ new.work.shelf.list
  pub late : new.late ≡ false

abbrev pub Turned : Outside → Bench → Bench → Turn → Type 0
Turned o old new turns.Did = (job : Job) × (turn_of job ≡ turns.Did) × WorksWhole o old new job
Turned o old new turns.Stopped =
    ((old.stopped ≡ true) × (new ≡ caught_up old) × IsQuiet o) ⊎ ((job : Job) × (turn_of job ≡ turns.Stopped) × WorksWhole o old new job)
Turned o old new turns.Idle = (old.stopped ≡ false) × (old.stays ≡ None) × (new ≡ caught_up old) × Holds old.knows [] × IsQuiet o

-- ---- without memory

-- nothing was taken up
pub record TakesNothing (old new : Bench) : Type 0 where
  pub knows : new.knows ≡ old.knows
  pub stays : new.stays ≡ old.stays

-- a job was taken up, and stays
pub record Defers (old new : Bench) (job : Job) : Type 0 where
  pub going : old.stopped ≡ false
  pub taken : TakesUp old.stays old.knows job new.knows
  pub stays : new.stays ≡ Some job

-- the work is as it was; where a job was taken up, it stays
pub record IsAsBefore (o : Outside) (old new : Bench) : Type 0 where
  pub work : new.work ≡ old.work
  pub job : TakesNothing old new ⊎ ((job : Job) × Defers old new job)
  pub events : new.events ≡ old.events
  pub refusal : new.refusal ≡ None
  pub stopped : new.stopped ≡ old.stopped
  pub quiet : IsQuiet o

-- the work is as it was, or a job was done and what is to be published of it is due
pub record IsLate (o : Outside) (old new : Bench) : Type 0 where
  pub either : IsAsBefore o old new ⊎ ((job : Job) × Works o old new job)
  pub goes : GoesOnLate old new
