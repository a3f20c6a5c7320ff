-- What clients are answered. This project's own.
use Rattle.std.specs.Prelude.{◌≡◌, ℕ, ℤ, pos, Bool, true, false, List, [], ◌∷◌, ◌++◌, Option, Some, None, fold, Contains, if◌then◌else◌}
use Rattle.kr_calls.specs.declared.answers.Answer.{Answer}
use Rattle.kr_calls.specs.declared.answers.AnswerKind.{AnswerKind}
use Rattle.kr_calls.specs.declared.answers.AnswerKind.TheVariants as kinds
use Rattle.kr_calls.specs.declared.answers.Answered.{Answered}
use Rattle.kr_calls.specs.declared.calls.Call.{Call}
use Rattle.kr_calls.specs.declared.calls.Reply.{Reply}
use Rattle.kr_calls.specs.declared.events.Entry.{Entry}
use Rattle.kr_calls.specs.declared.events.Output.{Output}
use Rattle.kr_calls.specs.declared.events.Reason.{Reason}
use Rattle.kr_calls.specs.declared.events.Entry.TheVariants as entries
use Rattle.kr_calls.specs.declared.events.Output.TheVariants as given
use Rattle.kr_model.specs.declared.writes.Ended.{Ended}
use Rattle.kr_model.specs.declared.writes.Told.{Told}
use Rattle.kr_shared.specs.declared.answers.Aside.{Aside}
use Rattle.kr_shared.specs.declared.answers.Asking.{Asking}
use Rattle.kr_shared.specs.declared.asked.Asked.{Asked}

-- what was decided of what was asked, at the place, with so many records and the reply
abbrev pub answered_of : Asked → ℤ → ℕ → Reply → Answered
answered_of a place count reply = record { seat = a.seat; call = a.call; ticket = a.ticket; floor = a.floor; place = place; count = count; basis = a.basis; reply = reply }

-- the answer that holds what was decided
abbrev pub answer_with : AnswerKind → Answered → Answer
answer_with kind d = record { seat = d.seat; ticket = d.ticket; place = d.place; kind = kind; answered = Some d }

abbrev pub decided_answer : Asked → AnswerKind → ℤ → ℕ → Reply → Answer
decided_answer a kind place count reply = answer_with kind (answered_of a place count reply)

abbrev pub answer_entry : Answer → Entry
answer_entry answer = entries.Answer answer

abbrev pub stop_entry : ℕ → Entry
stop_entry number = entries.Stop number

-- an answer without a decision, at the place
abbrev pub bare_answer : ℕ → ℕ → ℤ → AnswerKind → Answer
bare_answer seat ticket place kind = record { seat = seat; ticket = ticket; place = place; kind = kind; answered = None }

-- what waits, and the answers so far
pub record Answering : Type 0 where
  pub waiting : List Asked
  pub notes : List Entry

abbrev pub answering : List Asked → List Entry → Answering
answering waiting notes = record { waiting = waiting; notes = notes }

-- the reply is to what waited longest
abbrev pub with_reply : List Asked → List Entry → Ended → Reply → Answering
with_reply [] notes ended reply = answering [] notes
with_reply (a ∷ waiting) notes ended reply = answering waiting (notes ++ entries.Answer (decided_answer a ended.kind ended.decided.place ended.decided.count reply) ∷ [])

abbrev pub with_ended : Answering → Output → Ended → Answering
with_ended s (given.Append bytes) ended = s
with_ended s (given.Reply client correlation reply) ended = with_reply s.waiting s.notes ended reply
with_ended s (given.Refused event reason) ended = s
with_ended s (given.Image bytes) ended = s

abbrev pub with_told_end : Answering → Output → Option Ended → Answering
with_told_end s output None = s
with_told_end s output (Some ended) = with_ended s output ended

-- where it is the reply of a write that waited, that is answered
abbrev pub with_told : Answering → Told → Answering
with_told s told = with_told_end s told.output told.ended

-- an answer among the notes says what the reply says, to a call of the client with its correlation
pub record IsReplied (notes : List Entry) (client : ℕ) (correlation : ℤ) (reply : Reply) : Type 0 where
  pub answer : Answer
  pub answered : Answered
  pub noted : Contains notes (entries.Answer answer)
  pub holds : answer.answered ≡ Some answered
  pub of_client : answered.seat ≡ client
  pub of_call : answered.call.correlation ≡ correlation
  pub of_reply : answered.reply ≡ reply

abbrev pub IsNoted : List Entry → Output → Type 0
IsNoted notes (given.Append bytes) = Unit {0}
IsNoted notes (given.Reply client correlation reply) = IsReplied notes client correlation reply
IsNoted notes (given.Refused event reason) = Unit {0}
IsNoted notes (given.Image bytes) = Unit {0}

-- each reply among the outputs has its answer among the notes
abbrev pub AreReplied : List Entry → List Output → Type 0
AreReplied notes [] = Unit {0}
AreReplied notes (output ∷ outputs) = IsNoted notes output × AreReplied notes outputs

-- all that is told, in order
abbrev pub answer_all : Answering → List Told → Answering
answer_all s told = fold with_told s told

-- ---- a write that comes

abbrev pub asked_by : Asking → Call → Asked
asked_by a call = record { seat = a.seat; ticket = a.ticket; floor = a.floor; call = call; basis = a.basis }

abbrev pub aside_of : Asking → Call → Aside
aside_of a call = record { asked = asked_by a call; place = a.place }

abbrev pub reason_in : Output → Option Reason
reason_in (given.Append bytes) = None
reason_in (given.Reply client correlation reply) = None
reason_in (given.Refused event reason) = Some reason
reason_in (given.Image bytes) = None

abbrev pub or_reason : Option Reason → Told → Option Reason
or_reason (Some reason) told = Some reason
or_reason None told = reason_in told.output

-- why the event was refused, if it was
abbrev pub refusal_in : List Told → Option Reason
refusal_in told = fold or_reason None told

abbrev pub reply_in : Output → Option Reply
reply_in (given.Append bytes) = None
reply_in (given.Reply client correlation reply) = Some reply
reply_in (given.Refused event reason) = None
reply_in (given.Image bytes) = None

abbrev pub or_reply_in : Option Reply → Output → Option Reply
or_reply_in (Some reply) output = Some reply
or_reply_in None output = reply_in output

-- where no write waited for it
abbrev pub or_reply_alone : Option Reply → Output → Option Ended → Option Reply
or_reply_alone reply output None = or_reply_in reply output
or_reply_alone reply output (Some ended) = reply

abbrev pub or_reply : Option Reply → Told → Option Reply
or_reply reply told = or_reply_alone reply told.output told.ended

-- the first reply for which no write waited
abbrev pub first_reply : List Told → Option Reply
first_reply told = fold or_reply None told

-- a write on standby is lost at once
abbrev pub lost_at_once : Asked → ℤ → Option Reply → List Entry
lost_at_once a place (Some reply) = entries.Answer (decided_answer a kinds.Lost place 0 reply) ∷ []
lost_at_once a place None = []

abbrev pub exhausted_answer : Asking → Entry
exhausted_answer a = entries.Answer (bare_answer a.seat a.ticket a.place kinds.Exhausted)

-- of a write that doesn't wait: it was refused, or is lost at once
abbrev pub aside_noted : Option Aside → Option Reason → Option Reply → List Entry
aside_noted None reason reply = []
aside_noted (Some a) (Some reason) reply = entries.Answer (bare_answer a.asked.seat a.asked.ticket a.place kinds.Exhausted) ∷ []
aside_noted (Some a) None reply = lost_at_once a.asked a.place reply

-- a refused write is answered so; one that a leader takes waits behind those that wait
abbrev pub answer_write : Asking → Call → Bool → Option Reason → List Asked → List Told → Answering
answer_write a call led (Some reason) waiting told = answering waiting (exhausted_answer a ∷ [])
answer_write a call true None waiting told = answer_all (answering (waiting ++ asked_by a call ∷ []) []) told
answer_write a call false None waiting told = answering waiting (lost_at_once (asked_by a call) a.place (first_reply told))
