-- One frame after the other.
use Rattle.std.specs.Prelude.{◌≡◌, ℕ, ◌+◌, ◌<◌, ◌≤◌, ◌⊎◌, List, [], ◌∷◌, length, Option, Result, Ok, Err}
use Rattle.std.specs.Int.{w32}
use Rattle.std.specs.Io.KnownBytes.{Appends, Consumes, IsAtEnd, Keeps}
use Rattle.kr_base.specs.FailedPuts.{AppendsFront}
use Rattle.kr_wire.specs.Grammar.{IsNumber}
use Rattle.kr_process.specs.declared.status.Status.{Status}
use Rattle.kr_process.specs.declared.status.Status.TheVariants as statuses
use Rattle.kr_door_loop.specs.declared.limits.TheConstants.{MOST_QUESTION_BYTES}
use Rattle.kr_door_loop.specs.Answers.{Answer}
use Rattle.kr_door_loop.specs.Endings.{Answered, SaysNoSize, IsFrameOrLess, IsFrameFront, NothingBehind, longest_stream}
use Rattle.kr_door_loop.specs.Frames.{AnswerFits, Turn, ContentFits, AnswersQuestion, IsTurn, IsContentFrame, answer_bytes, asked_bytes}

-- ---- what is taken

-- a size that a frame may have
pub record TookSize (at : ℕ) (left left' : Option (List ℕ)) (size : ℕ) : Type 0 where
  pub taken : List ℕ
  pub said : IsNumber w32 size taken
  pub took : Consumes left left' taken
  pub some : 0 < size
  pub few : size ≤ MOST_QUESTION_BYTES
  pub within : at + 4 ≤ longest_stream

-- a whole frame
pub record TookFrame (at : ℕ) (left left' : Option (List ℕ)) (content : List ℕ) : Type 0 where
  pub taken : List ℕ
  pub is : IsContentFrame content taken
  pub took : Consumes left left' taken
  pub fits : ContentFits content
  pub within : at + (4 + length content) ≤ longest_stream

-- why there is none, by the bytes that were taken
abbrev pub StopsBy : ℕ → List ℕ → Option (List ℕ) → Status → Type 0
StopsBy at taken left' statuses.Done = (taken ≡ []) × IsAtEnd left'
StopsBy at taken left' (statuses.Malformed place) = (place ≡ at) × (SaysNoSize taken ⊎ (IsFrameFront taken × (0 < length taken) × IsAtEnd left'))
StopsBy at taken left' statuses.ReadFault = IsFrameFront taken
StopsBy at taken left' statuses.NoMemory = IsFrameFront taken
StopsBy at taken left' statuses.TooLong = IsFrameFront taken × (at + length taken ≡ longest_stream)
StopsBy at taken left' statuses.WriteFault = ⊥
StopsBy at taken left' statuses.Usage = ⊥

pub record StopsAt (at : ℕ) (left left' : Option (List ℕ)) (status : Status) : Type 0 where
  pub taken : List ℕ
  pub took : Consumes left left' taken
  pub within : at + length taken ≤ longest_stream
  pub why : StopsBy at taken left' status

-- ---- what is answered

-- the frame of an answer to a question of the kind with this number
pub record FramesAnswer (number : ℕ) (body frame : List ℕ) : Type 0 where
  pub answer : Answer
  pub is : AnswersQuestion (record { kind = number; body = body }) answer
  pub said : AnswerFits answer
  pub bytes : frame ≡ answer_bytes answer

-- the answer to what a frame has behind its size, of which this was written
pub record AnswersContent (Wrote : List ℕ → Type 0) (content : List ℕ) : Type 0 where
  pub kind : ℕ
  pub body : List ℕ
  pub parts : content ≡ kind ∷ body
  pub answer : Answer
  pub is : AnswersQuestion (record { kind = kind; body = body }) answer
  pub said : AnswerFits answer
  pub wrote : Wrote (answer_bytes answer)

abbrev pub PutsAnswer : List ℕ → Option (List ℕ) → Option (List ℕ) → Result (Unit {0}) Status → Type 0
PutsAnswer content written written' (Ok done) = AnswersContent (Appends written written') content
PutsAnswer content written written' (Err statuses.WriteFault) = AnswersContent (AppendsFront written written') content
PutsAnswer content written written' (Err statuses.NoMemory) = Keeps written written'
PutsAnswer content written written' (Err other) = ⊥

-- ---- one step

-- a question was taken at this place, and of the frame of its answer this was written
pub record TookTurn (Wrote : List ℕ → Type 0) (at : ℕ) (left left' : Option (List ℕ)) (next : ℕ) : Type 0 where
  pub turn : Turn
  pub is : IsTurn turn
  pub took : Consumes left left' turn.frame
  pub place : next ≡ at + length turn.frame
  pub within : next ≤ longest_stream
  pub wrote : Wrote (answer_bytes turn.answer)

-- a frame was taken, but there is no memory for its answer
pub record LostAnswer (at : ℕ) (left left' : Option (List ℕ)) : Type 0 where
  pub taken : List ℕ
  pub took : Consumes left left' taken
  pub within : at + length taken ≤ longest_stream
  pub frame : IsFrameOrLess at taken

abbrev pub StepEnds : ℕ → Option (List ℕ) → Option (List ℕ) → Option (List ℕ) → Option (List ℕ) → Status → Type 0
StepEnds at left left' written written' statuses.WriteFault = (next : ℕ) × TookTurn (AppendsFront written written') at left left' next
StepEnds at left left' written written' statuses.NoMemory = LostAnswer at left left' × Keeps written written'
StepEnds at left left' written written' status = StopsAt at left left' status × Keeps written written'

abbrev pub Steps : ℕ → Option (List ℕ) → Option (List ℕ) → Option (List ℕ) → Option (List ℕ) → Result ℕ Status → Type 0
Steps at left left' written written' (Ok next) = TookTurn (Appends written written') at left left' next
Steps at left left' written written' (Err status) = StepEnds at left left' written written' status

-- questions were answered up to this place
pub record UpTo (left left' written written' : Option (List ℕ)) (at : ℕ) : Type 0 where
  pub answered : Answered NothingBehind (Appends written written') left left'
  pub place : at ≡ length (asked_bytes answered.turns)
