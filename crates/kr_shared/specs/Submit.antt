-- What a submit tells. This project's own.
use Rattle.std.specs.Prelude.{◌≡◌, ◌⊎◌, ◌++◌, ◌∷◌, [], ℕ, ℤ, int_lt, IsTrue, List, Some, Result, MatchResult}
use Rattle.kr_calls.specs.declared.answers.Answer.{Answer}
use Rattle.kr_calls.specs.declared.answers.AnswerKind.{AnswerKind}
use Rattle.kr_calls.specs.declared.answers.AnswerKind.TheVariants as kinds
use Rattle.kr_calls.specs.declared.answers.Answered.{Answered}
use Rattle.kr_calls.specs.declared.calls.Call.{Call}
use Rattle.kr_calls.specs.declared.events.Entry.{Entry}
use Rattle.kr_calls.specs.SeatList.{end_of, stop_of}
use Rattle.kr_defs.specs.declared.limits.TheConstants.{GREATEST_TIP}
use Rattle.kr_queue.specs.declared.jobs.Job.{Job}
use Rattle.kr_view.specs.declared.rule.ThreadView.{ThreadView}
use Rattle.kr_view.specs.Looks.{HasRight}
use Rattle.kr_shared.specs.declared.clients.SubmitFault.{SubmitFault}
use Rattle.kr_shared.specs.declared.clients.SubmitFault.TheVariants as faults
use Rattle.kr_shared.specs.Clients.{Client, job_of_call}

-- the list holds a right answer to the seat's ticket
pub record HasAnswer (seen : ThreadView) (seat ticket : ℕ) (answer : Answer) : Type 0 where
  pub right : HasRight seen.options seen.list answer
  pub of_seat : answer.seat ≡ seat
  pub of_ticket : answer.ticket ≡ ticket

-- the list holds the right answer in which this was decided, of the seat's call and not below the floor
pub record IsAnswered (seen : ThreadView) (seat ticket : ℕ) (floor : ℤ) (call : Call) (a : Answered) : Type 0 where
  pub answer : Answer
  pub held : HasAnswer seen seat ticket answer
  pub holds : answer.answered ≡ Some a
  pub of_seat : a.seat ≡ seat
  pub of_ticket : a.ticket ≡ ticket
  pub of_floor : a.floor ≡ floor
  pub of_call : a.call ≡ call

-- the list holds an answer of the kind, at the place
pub record IsBare (seen : ThreadView) (seat ticket : ℕ) (kind : AnswerKind) (place : ℤ) : Type 0 where
  pub answer : Answer
  pub held : HasAnswer seen seat ticket answer
  pub of_kind : answer.kind ≡ kind
  pub at : answer.place ≡ place

-- why there is no answer: a stop, or an answer that says so and shows it; of want of memory nothing is said
abbrev pub IsSubmitCause : ThreadView → ℕ → ℕ → ℤ → SubmitFault → Type 0
IsSubmitCause seen seat ticket floor (faults.Ended number) = stop_of seen.list ≡ Some number
IsSubmitCause seen seat ticket floor (faults.Ahead named tip) = (named ≡ floor) × IsTrue (int_lt tip floor) × IsBare seen seat ticket kinds.Ahead tip
IsSubmitCause seen seat ticket floor (faults.Exhausted tip) = IsTrue (int_lt GREATEST_TIP tip) × IsBare seen seat ticket kinds.Exhausted tip
IsSubmitCause seen seat ticket floor faults.NoMemory = Unit {0}

-- the seat pushed the write
abbrev pub Pushed : Client → Client → Call → Type 0
Pushed old new call = new.pushed ≡ old.pushed ++ job_of_call old new.ticket call ∷ []

abbrev pub PushedAtFault : Client → Client → Call → SubmitFault → Type 0
PushedAtFault old new call (faults.Ended number) = (new.pushed ≡ old.pushed) ⊎ Pushed old new call
PushedAtFault old new call (faults.Ahead floor tip) = Pushed old new call
PushedAtFault old new call (faults.Exhausted tip) = Pushed old new call
PushedAtFault old new call faults.NoMemory = (new.pushed ≡ old.pushed) ⊎ Pushed old new call
