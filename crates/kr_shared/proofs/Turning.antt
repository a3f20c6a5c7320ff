-- Behind a job the worker stands for a state again.
use Rattle.std.proofs.Common.{◌≡◌, sym, subst, ℕ, ℤ, Bool, true, false, List, refl, ap, ◌∙◌, ◌⊎◌, inl, inr}
use Rattle.std.specs.Prelude.{Option, Some, None, IsTrue, int_lt, Result, Ok, Err, IfErr, OnErr, OnOk}
use Rattle.kr_base.specs.Causes.{Rose}
use Rattle.kr_calls.specs.declared.answers.AnswerKind.TheVariants as kinds
use Rattle.kr_calls.specs.declared.calls.Ask.TheVariants as asks
use Rattle.kr_calls.specs.declared.calls.Call.{Call}
use Rattle.kr_calls.specs.declared.events.Entry.{Entry}
use Rattle.kr_calls.specs.declared.events.Entry.TheVariants as entries
use Rattle.kr_calls.specs.declared.events.Event.{Event}
use Rattle.kr_calls.specs.declared.events.Event.TheVariants as events
use Rattle.kr_calls.specs.declared.events.Reason.{Reason}
use Rattle.kr_defs.specs.declared.basis.Basis.{Basis}
use Rattle.kr_defs.proofs.Tests.{both}
use Rattle.kr_view.specs.CopiesRule.{GoesOn}
use Rattle.kr_queue.specs.declared.jobs.Job.{Job}
use Rattle.kr_queue.specs.declared.jobs.Job.TheVariants as jobs
use Rattle.kr_queue.specs.declared.passes.View.{View}
use Rattle.kr_queue.specs.Jobs.{is_fit, is_of}
use Rattle.kr_queue.specs.QueueRule.{role_at}
use Rattle.kr_queue.specs.Steps.{IsPop}
use Rattle.kr_model.specs.Events.{happens}
use Rattle.kr_model.specs.Outputs.{waiting_after}
use Rattle.kr_shared.specs.declared.answers.Asking.{Asking}
use Rattle.kr_shared.specs.declared.desk.Caller.{Caller}
use Rattle.kr_shared.specs.declared.worker.Turn.{Turn}
use Rattle.kr_shared.specs.Desks.{ComesToSame, DeskState, settled}
use Rattle.kr_shared.specs.Serves.{ServesEvent}
use Rattle.kr_shared.specs.Standing.{StandsForSome}
use Rattle.kr_shared.specs.Tasks.{basis_at}
use Rattle.kr_shared.specs.Answers.{bare_answer}
use Rattle.kr_shared.specs.Turns.{events_with, Bench, DoesJob, DoesRequest, DoesWhole, DoesWrite, IsAsBefore, IsDone, IsDoneLate, IsDoneWhole, IsLate, IsPutOff, IsQuiet, LosesLed, LosesUnless, Notes, NotesUnlessAhead, Outside, StaysLate, TakesUp, Turned, Works, WorksWhole, caught_up, turn_of}
use Rattle.kr_shared.specs.Works.{DeskView, Onwards}
use Rattle.kr_shared.proofs.Onwards.{goes_on}
use Rattle.kr_shared.proofs.Settling.{due_behind}

same_stands : (old new : DeskView) → new ≡ old → StandsForSome old → StandsForSome new
same_stands old new is k = subst StandsForSome (sym is) k

notes_stand : (old new : DeskView) (e : Entry) → Notes old new e → StandsForSome old → StandsForSome new
notes_stand old new e n k = record { state = k.state; writes = k.writes; stands = n.stands k.state k.writes k.stands }

module _ (pieces pieces' : Option (List (List ℕ))) (faults faults' : ℕ) (old new : DeskView) where
  pub served_stands : (event : Event) (asking : Option Asking) (appended : Bool) (refusal : Option Reason) → ServesEvent pieces pieces' faults faults' old new event asking appended refusal → StandsForSome old → StandsForSome new
  served_stands event asking appended refusal x k = record {
    state = happens old.engine.options k.state event;
    writes = waiting_after old.engine.options k.state k.writes event;
    stands = x.stands k.state k.writes k.stands;
  }

  led_stands : (leading : Option ℤ) → LosesLed pieces pieces' faults faults' old new leading → StandsForSome old → StandsForSome new
  led_stands None x k = same_stands old new x.0 k
  led_stands (Some epoch) x k = served_stands _ _ x.appended x.refusal x.serves k

  pub lost_stands : (appended : Bool) → LosesUnless appended pieces pieces' faults faults' old new → StandsForSome old → StandsForSome new
  lost_stands true x k = same_stands old new x.0 k
  lost_stands false x k = led_stands old.engine.leading x k

pub whole_stands : (pieces pieces' : Option (List (List ℕ))) (faults faults' : ℕ) (old new : DeskView) (event : Event) (asking : Option Asking) (refusal : Option Reason) → DoesWhole pieces pieces' faults faults' old new event asking refusal → StandsForSome old → StandsForSome new
whole_stands pieces pieces' faults faults' old new event asking refusal x k =
    lost_stands x.pieces_then pieces' x.faults_then faults' x.between new x.appended x.loses
    (served_stands pieces x.pieces_then faults x.faults_then old x.between event asking x.appended refusal x.serves k)

write_stands : (ahead : Bool) (o : Outside) (old new : DeskView) (seat ticket : ℕ) (floor : ℤ) (call : Call) → DoesWrite ahead o old new seat ticket floor call → StandsForSome old → StandsForSome new
write_stands true o old new seat ticket floor call x k = notes_stand old new _ x.1 k
write_stands false o old new seat ticket floor call x k = whole_stands o.pieces o.pieces' o.faults o.faults' old new _ _ x.1.0 x.1.1 k

note_stands : (ahead : Bool) (old new : DeskView) (seat ticket : ℕ) (e : Entry) → NotesUnlessAhead ahead old new seat ticket e → StandsForSome old → StandsForSome new
note_stands true old new seat ticket e x k = notes_stand old new _ x k
note_stands false old new seat ticket e x k = notes_stand old new e x k

pub job_stands : (o : Outside) (old new : DeskView) (job : Job) (refusal : Option Reason) → DoesJob o old new job refusal → StandsForSome old → StandsForSome new
job_stands o old new (jobs.Link event) refusal x k = whole_stands o.pieces o.pieces' o.faults o.faults' old new event None refusal x k
job_stands o old new (jobs.Stop number) refusal x k = notes_stand old new _ x.2 k
job_stands o old new (jobs.Write seat ticket floor call) refusal x k = write_stands (int_lt old.engine.tip floor) o old new seat ticket floor call x.1 k
job_stands o old new (jobs.Pin seat ticket floor) refusal x k = note_stands (int_lt old.engine.tip floor) old new seat ticket _ x.2 k
job_stands o old new (jobs.Unpin seat ticket floor place) refusal x k = note_stands (int_lt old.engine.tip floor) old new seat ticket _ x.2 k

-- what the worker pops is fit
pub popped_fit : (v w : View) (job : Job) → IsPop v job w → IsTrue (is_fit job)
popped_fit v w job x = (both (is_of (role_at x.1.0) job) (is_fit job) x.1.2).1

-- ---- what serving and losing come to

pub both_done : (pieces pieces_then pieces' : Option (List (List ℕ))) (faults faults_then faults' : ℕ) (old between new : DeskView) (event : Event) (asking : Option Asking) (appended : Bool) (refusal : Option Reason)
    → ServesEvent pieces pieces_then faults faults_then old between event asking appended refusal → LosesUnless appended pieces_then pieces' faults_then faults' between new → DoesWhole pieces pieces' faults faults' old new event asking refusal
both_done pieces pieces_then pieces' faults faults_then faults' old between new event asking appended refusal serves loses =
    record { between = between; pieces_then = pieces_then; faults_then = faults_then; appended = appended; serves = serves; loses = loses }

pub loses_so : (pieces pieces' : Option (List (List ℕ))) (faults faults' : ℕ) (old new : DeskView) (leading : Option ℤ) (epoch : ℤ)
    → leading ≡ Some epoch → LosesLed pieces pieces' faults faults' old new (Some epoch) → LosesLed pieces pieces' faults faults' old new leading
loses_so pieces pieces' faults faults' old new leading epoch is loses = subst (LosesLed pieces pieces' faults faults' old new) (sym is) loses

pub loses_none : (pieces : Option (List (List ℕ))) (faults : ℕ) (old : DeskView) (leading : Option ℤ) → leading ≡ None → LosesLed pieces pieces faults faults old old leading
loses_none pieces faults old leading is = subst (LosesLed pieces pieces faults faults old old) (sym is) (refl, refl, refl)

-- what a client asks for is done at the time that the clock said
pub request_done : (pieces pieces' : Option (List (List ℕ))) (faults faults' : ℕ) (old new : DeskView) (c : Caller) (now place : ℤ) (basis : Basis) (call : Call) (refusal : Option Reason)
    → place ≡ old.engine.tip → basis ≡ basis_at old.engine now
    → DoesWhole pieces pieces' faults faults' old new (events.Request c.seat now (asks.Call call)) (Some (record { seat = c.seat; ticket = c.ticket; floor = c.floor; place = place; basis = basis })) refusal
    → DoesRequest pieces pieces' faults faults' old new c now call
request_done pieces pieces' faults faults' old new c now place basis call refusal at rests done = (
  refusal,
  subst (λ (x : ℤ × Basis). DoesWhole pieces pieces' faults faults' old new (events.Request c.seat now (asks.Call call)) (Some (record { seat = c.seat; ticket = c.ticket; floor = c.floor; place = x.0; basis = x.1 })) refusal) (λ i. (at i, rests i)) done,
)

pub write_done : (o : Outside) (old new : DeskView) (c : Caller) (now : ℤ) (call : Call) → o.last ≡ now → Rose o.asks o.asks' → int_lt old.engine.tip c.floor ≡ false
    → DoesRequest o.pieces o.pieces' o.faults o.faults' old new c now call → DoesWrite (int_lt old.engine.tip c.floor) o old new c.seat c.ticket c.floor call
write_done o old new c now call last rose enough done =
    subst (λ b. DoesWrite b o old new c.seat c.ticket c.floor call) (sym enough)
    (rose, subst (λ z. DoesRequest o.pieces o.pieces' o.faults o.faults' old new c z call) (sym last) done)

pub ahead_done : (o : Outside) (old new : DeskView) (c : Caller) (call : Call) → int_lt old.engine.tip c.floor ≡ true → IsQuiet o → Notes old new (entries.Answer (bare_answer c.seat c.ticket old.engine.tip kinds.Ahead))
    → DoesWrite (int_lt old.engine.tip c.floor) o old new c.seat c.ticket c.floor call
ahead_done o old new c call ahead quiet notes = subst (λ b. DoesWrite b o old new c.seat c.ticket c.floor call) (sym ahead) (quiet, notes)

-- ---- turns

-- a job that was done is a turn
pub turned_so : (o : Outside) (old new : Bench) (job : Job) (turn : Turn) → turn ≡ turn_of job → WorksWhole o old new job → Turned o old new turn
turned_so o old new (jobs.Link event) turn is w = subst (Turned o old new) (sym is) (jobs.Link event, refl, w)
turned_so o old new (jobs.Stop number) turn is w = subst (Turned o old new) (sym is) (inr (jobs.Stop number, refl, w))
turned_so o old new (jobs.Write seat ticket floor call) turn is w = subst (Turned o old new) (sym is) (jobs.Write seat ticket floor call, refl, w)
turned_so o old new (jobs.Pin seat ticket floor) turn is w = subst (Turned o old new) (sym is) (jobs.Pin seat ticket floor, refl, w)
turned_so o old new (jobs.Unpin seat ticket floor place) turn is w = subst (Turned o old new) (sym is) (jobs.Unpin seat ticket floor place, refl, w)

-- the job was taken up, once all was published that was due
module _ (o : Outside) (old mid taken new : Bench) (job : Job) (mid_is : mid ≡ caught_up old) (going : mid.stopped ≡ false) (taken_is : taken ≡ record mid { knows = taken.knows; stays = None }) (takes : TakesUp mid.stays mid.knows job taken.knows) where
  still_going : old.stopped ≡ false
  still_going = sym (ap (λ (b : Bench). b.stopped) mid_is) ∙ going

  takes_old : TakesUp old.stays old.knows job taken.knows
  takes_old = subst (λ (b : Bench). TakesUp b.stays b.knows job taken.knows) mid_is takes

  events_is : taken.events ≡ old.events
  events_is = ap (λ (b : Bench). b.events) taken_is ∙ ap (λ (b : Bench). b.events) mid_is

  work_is : taken.work ≡ old.work
  work_is = ap (λ (b : Bench). b.work) taken_is ∙ ap (λ (b : Bench). b.work) mid_is

  shown_is : taken.shown ≡ old.work.shelf.list
  shown_is = ap (λ (b : Bench). b.shown) taken_is ∙ ap (λ (b : Bench). b.shown) mid_is

  pub works_so : IsDone o taken new job → Works o old new job
  works_so d = record {
    going = still_going;
    taken = subst (TakesUp old.stays old.knows job) (sym d.knows) takes_old;
    does = subst (λ (w : DeskView). DoesJob o w new.work job new.refusal) work_is d.does;
    events = d.events ∙ ap (λ events. events_with events job) events_is;
    stopped = d.stopped;
    stays = d.stays ∙ ap (λ (b : Bench). b.stays) taken_is;
  }

  pub works_whole : IsDoneWhole o taken new job → WorksWhole o old new job
  works_whole d = record { works = works_so d.done; shown = d.shown; late = d.late }

  put_off : IsPutOff o taken new job → IsAsBefore o old new
  put_off d = record {
    work = d.work ∙ work_is;
    job = inr (job, record { going = still_going; taken = subst (TakesUp old.stays old.knows job) (sym d.knows) takes_old; stays = d.stays });
    events = d.events ∙ events_is;
    refusal = d.refusal ∙ (ap (λ (b : Bench). b.refusal) taken_is ∙ ap (λ (b : Bench). b.refusal) mid_is);
    stopped = d.stopped ∙ (ap (λ (b : Bench). b.stopped) taken_is ∙ ap (λ (b : Bench). b.stopped) mid_is);
    quiet = d.quiet;
  }

  either : IsDone o taken new job ⊎ IsPutOff o taken new job → IsAsBefore o old new ⊎ ((j : Job) × Works o old new j)
  either (inl d) = inr (job, works_so d)
  either (inr d) = inl (put_off d)

  pub late_so : GoesOn old.work.shelf.list old.shown → IsDoneLate o taken new job → IsLate o old new
  late_so due d = record {
    either = either d.either;
    goes = record {
      onwards = goes_on old.shown old.work.shelf.list new.shown due (subst (GoesOn new.shown) shown_is d.goes.onwards);
      due = d.goes.due;
    };
  }

-- done, or left so that it stands too
pub either_way : {T E P : Type 0} {Q : E → Type 0} (r : Result T E) → OnOk r P → IfErr r Q → ((e : E) → Q e → P) → P
either_way (Ok x) done back stands = done
either_way (Err e) done back stands = stands e back

-- whatever was answered
pub whatever : {T E P : Type 0} (r : Result T E) → P → OnErr r P
whatever (Ok x) p = tt
whatever (Err e) p = p

-- what is due stays due
pub stays_late : (old : Bench) (k later : DeskState) → old.work ≡ settled k → old.shown ≡ k.shelf.list → ComesToSame k later → Onwards k.shelf later.shelf → StaysLate old (record old { work = settled later; shown = later.shelf.list })
stays_late old k later work shown same onwards = record {
  same = ap (λ (w : DeskView). record old { work = w; shown = later.shelf.list }) (same.same ∙ sym work);
  goes = record { onwards = subst (GoesOn later.shelf.list) (sym shown) onwards.list; due = due_behind later };
}

-- nothing was taken up
pub still_late : (o : Outside) (old mid new : Bench) → mid ≡ record old { refusal = None } → IsQuiet o → StaysLate mid new → IsLate o old new
still_late o old mid new mid_is quiet s = record {
  either = inl (record {
    work = ap (λ (b : Bench). b.work) s.same ∙ ap (λ (b : Bench). b.work) mid_is;
    job = inl (record {
      knows = ap (λ (b : Bench). b.knows) s.same ∙ ap (λ (b : Bench). b.knows) mid_is;
      stays = ap (λ (b : Bench). b.stays) s.same ∙ ap (λ (b : Bench). b.stays) mid_is;
    });
    events = ap (λ (b : Bench). b.events) s.same ∙ ap (λ (b : Bench). b.events) mid_is;
    refusal = ap (λ (b : Bench). b.refusal) s.same ∙ ap (λ (b : Bench). b.refusal) mid_is;
    stopped = ap (λ (b : Bench). b.stopped) s.same ∙ ap (λ (b : Bench). b.stopped) mid_is;
    quiet = quiet;
  });
  goes = record {
    onwards = subst (GoesOn new.shown) (ap (λ (b : Bench). b.shown) mid_is) s.goes.onwards;
    due = s.goes.due;
  };
}
