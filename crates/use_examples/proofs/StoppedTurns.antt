-- What the list of a worker holds that was turned twice.
use Rattle.std.proofs.Common.{◌≡◌, ◌∙◌, ℕ, true, false, List, [], ◌∷◌, ◌++◌, refl, sym, ap, inl, inr}
use Rattle.std.specs.Prelude.{◌⊎◌}
use Rattle.kr_calls.specs.declared.events.Entry.{Entry}
use Rattle.kr_calls.specs.declared.events.Entry.TheVariants as entries
use Rattle.kr_defs.specs.declared.options.Options.{Options}
use Rattle.kr_queue.specs.declared.jobs.Job.{Job}
use Rattle.kr_queue.specs.declared.jobs.Job.TheVariants as jobs
use Rattle.kr_shared.specs.declared.worker.Turn.{Turn}
use Rattle.kr_shared.specs.declared.worker.Turn.TheVariants as turns
use Rattle.kr_shared.specs.Clients.{Client}
use Rattle.kr_shared.specs.Opened.{AreSeated}
use Rattle.kr_shared.specs.Turns.{Bench, Outside, Turned, WorksWhole, caught_up, turn_of}
use Rattle.kr_shared.specs.Works.{DeskView}
use Rattle.use_examples.specs.StoppedTurns.{HasStopAlone, IsFresh, ListsTurns}

pub fresh_of : (options : Options) (seats : ℕ) (worker : Bench) (link : List Job) (clients : List Client) → AreSeated options seats worker link clients → IsFresh worker
fresh_of options seats worker link clients seated = record { list = ap (λ shelf. shelf.list) seated.shelf; going = seated.stopped }

-- a stop was taken up, and is shown
record Stops (b : Bench) : Type 0 where
  number : ℕ
  list : b.work.shelf.list ≡ entries.Stop number ∷ []
  shown : b.shown ≡ entries.Stop number ∷ []
  stopped : b.stopped ≡ true

by_job : (o : Outside) (old new : Bench) (job : Job) → IsFresh old → turn_of job ≡ turns.Stopped → WorksWhole o old new job → Stops new
by_job o old new (jobs.Stop number) fresh is works =
    let notes = works.works.does.2 in
    let list = ap (λ (desk : DeskView). desk.shelf.list) notes.is ∙ ap (λ (l : List Entry). l ++ entries.Stop number ∷ []) fresh.list in
    record { number = number; list = list; shown = works.shown ∙ list; stopped = works.works.stopped }
by_job o old new (jobs.Link event) fresh is works = absurd cc
by_job o old new (jobs.Write seat ticket floor call) fresh is works = absurd cc
by_job o old new (jobs.Pin seat ticket floor) fresh is works = absurd cc
by_job o old new (jobs.Unpin seat ticket floor place) fresh is works = absurd cc

stops : (o : Outside) (old new : Bench) → IsFresh old → Turned o old new turns.Stopped → Stops new
stops o old new fresh (inl again) = absurd (let no = sym fresh.going ∙ again.0 in cc)
stops o old new fresh (inr worked) = by_job o old new worked.0 fresh worked.1 worked.2

-- a turn without a job leaves all as it is
idles : (o : Outside) (old new : Bench) → IsFresh old → Turned o old new turns.Idle → IsFresh new
idles o old new fresh idle = record { list = ap (λ (b : Bench). b.work.shelf.list) idle.2 ∙ fresh.list; going = ap (λ (b : Bench). b.stopped) idle.2 ∙ fresh.going }

shows_none : (o : Outside) (old new : Bench) → IsFresh old → Turned o old new turns.Idle → new.shown ≡ []
shows_none o old new fresh idle = ap (λ (b : Bench). b.shown) idle.2 ∙ fresh.list

again_stopped : (o : Outside) (old new : Bench) → Stops old → Turned o old new turns.Stopped → HasStopAlone new.shown
again_stopped o old new stop (inl again) = (stop.number, ap (λ (b : Bench). b.shown) again.1 ∙ stop.list)
again_stopped o old new stop (inr worked) = absurd (let no = sym stop.stopped ∙ worked.2.works.going in cc)

stop_alone : (b : Bench) → Stops b → HasStopAlone b.shown
stop_alone b stop = (stop.number, stop.shown)

no_job_then : (o : Outside) (old new : Bench) → Stops old → Turned o old new turns.Did → ⊥
no_job_then o old new stop worked = absurd (let no = sym stop.stopped ∙ worked.2.works.going in cc)

none_then : (o : Outside) (old new : Bench) → Stops old → Turned o old new turns.Idle → ⊥
none_then o old new stop idle = absurd (let no = sym stop.stopped ∙ idle.0 in cc)

pub two_turns : (o p : Outside) (old mid new : Bench) (first second : Turn) → IsFresh old → Turned o old mid first → Turned p mid new second → ListsTurns new.shown first second
two_turns o p old mid new turns.Idle turns.Idle fresh first second = shows_none p mid new (idles o old mid fresh first) second
two_turns o p old mid new turns.Idle turns.Stopped fresh first second = stop_alone new (stops p mid new (idles o old mid fresh first) second)
two_turns o p old mid new turns.Idle turns.Did fresh first second = tt
two_turns o p old mid new turns.Did second_turn fresh first second = tt
two_turns o p old mid new turns.Stopped turns.Stopped fresh first second = again_stopped p mid new (stops o old mid fresh first) second
two_turns o p old mid new turns.Stopped turns.Idle fresh first second = none_then p mid new (stops o old mid fresh first) second
two_turns o p old mid new turns.Stopped turns.Did fresh first second = no_job_then p mid new (stops o old mid fresh first) second
