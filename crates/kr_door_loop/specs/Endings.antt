-- How the answering ends: its status, and what was taken and written at each.
use Rattle.std.specs.Prelude.{◌≡◌, ℕ, ◌+◌, ◌<◌, ◌≤◌, ◌⊎◌, List, [], ◌++◌, length, Option, IfSome}
use Rattle.std.specs.Int.{w32}
use Rattle.std.specs.Io.KnownBytes.{Appends, Consumes, IsAtEnd}
use Rattle.kr_base.specs.FailedPuts.{AppendsFront}
use Rattle.kr_defs.specs.declared.limits.TheConstants.{MOST_SESSION_BYTES}
use Rattle.kr_wire.specs.Grammar.{Each, IsNumber}
use Rattle.kr_process.specs.declared.status.Status.{Status}
use Rattle.kr_process.specs.declared.status.Status.TheVariants as statuses
use Rattle.kr_door_loop.specs.declared.limits.TheConstants.{MOST_QUESTION_BYTES}
use Rattle.kr_door_loop.specs.Frames.{AreTurns, Turn, ContentFits, IsContentFrame, Question, answered_bytes, asked_bytes, content_of}

-- the longest input
abbrev pub longest_stream : ℕ
longest_stream = MOST_SESSION_BYTES

-- ---- a frame

-- the bytes say no size that a frame may have
pub record SaysNoSize (bytes : List ℕ) : Type 0 where
  pub size : ℕ
  pub said : IsNumber w32 size bytes
  pub none : (size ≡ 0) ⊎ (MOST_QUESTION_BYTES < size)

-- The bytes begin a frame, as far as its size tells, and are fewer than it says.
pub data IsFrameFront (bytes : List ℕ) : Type 0 where
  in_size : length bytes < 4 → IsFrameFront bytes
  in_content : (size : ℕ) (head content : List ℕ) → bytes ≡ head ++ content → IsNumber w32 size head → 0 < size → size ≤ MOST_QUESTION_BYTES
      → length content < size → IsFrameFront bytes

-- a whole frame
pub record IsAllOfFrame (bytes : List ℕ) : Type 0 where
  pub content : List ℕ
  pub is : IsContentFrame content bytes
  pub fits : ContentFits content

-- ---- the statuses

-- Frames of questions were taken, and behind them bytes of which that holds. Of the frames of the answers this was written.
pub record Answered (Behind : ℕ → List ℕ → Type 0) (Wrote : List ℕ → Type 0) (left left' : Option (List ℕ)) : Type 0 where
  pub turns : List Turn
  pub rest : List ℕ
  pub are : AreTurns turns
  pub took : Consumes left left' (asked_bytes turns ++ rest)
  pub within : length (asked_bytes turns) + length rest ≤ longest_stream
  pub behind : Behind (length (asked_bytes turns)) rest
  pub wrote : Wrote (answered_bytes turns)

abbrev pub NothingBehind : ℕ → List ℕ → Type 0
NothingBehind at rest = rest ≡ []

-- nothing, at the end of the input
abbrev pub EndsHere : Option (List ℕ) → ℕ → List ℕ → Type 0
EndsHere left' at rest = (rest ≡ []) × IsAtEnd left'

-- so many bytes tell that no frame stands at this place; or the input ends in a frame
abbrev pub IsBroken : Option (List ℕ) → ℕ → ℕ → List ℕ → Type 0
IsBroken left' place at rest = (place ≡ at) × (SaysNoSize rest ⊎ (IsFrameFront rest × (0 < length rest) × IsAtEnd left'))

abbrev pub IsPartial : ℕ → List ℕ → Type 0
IsPartial at rest = IsFrameFront rest

-- no whole frame, and the last byte that may be taken
abbrev pub IsTooLong : ℕ → List ℕ → Type 0
IsTooLong at rest = IsFrameFront rest × (at + length rest ≡ longest_stream)

abbrev pub IsFrameOrLess : ℕ → List ℕ → Type 0
IsFrameOrLess at rest = IsFrameFront rest ⊎ IsAllOfFrame rest

-- What each status tells of the bytes that were taken, and of those that were written.
abbrev pub DoorEnds : Option (List ℕ) → Option (List ℕ) → Option (List ℕ) → Option (List ℕ) → Status → Type 0
DoorEnds left left' written written' statuses.Done = Answered (EndsHere left') (Appends written written') left left'
DoorEnds left left' written written' (statuses.Malformed at) = Answered (IsBroken left' at) (Appends written written') left left'
DoorEnds left left' written written' statuses.ReadFault = Answered IsPartial (Appends written written') left left'
DoorEnds left left' written written' statuses.WriteFault = Answered NothingBehind (AppendsFront written written') left left'
DoorEnds left left' written written' statuses.NoMemory = Answered IsFrameOrLess (Appends written written') left left'
DoorEnds left left' written written' statuses.TooLong = Answered IsTooLong (Appends written written') left left'
DoorEnds left left' written written' statuses.Usage = ⊥

-- ---- where nothing failed

-- a question's frame
abbrev pub IsAsked : Question → List ℕ → Type 0
IsAsked q bytes = IsContentFrame (content_of q) bytes × ContentFits (content_of q)

-- there are bytes, and no front of them is a frame
pub record BeginsNoFrame (bytes : List ℕ) : Type 0 where
  pub some : 0 < length bytes
  pub none : (content frame rest : List ℕ) → bytes ≡ frame ++ rest → IsContentFrame content frame → ContentFits content → ⊥

-- a stream of frames is answered to its end, if it is shorter than the longest
abbrev pub AnswersWhole : Option (List ℕ) → Status → Type 0
AnswersWhole left status = IfSome left (λ stream. (questions : List Question) → length stream < longest_stream → Each IsAsked questions stream →
    (status ≡ statuses.Done) ⊎ (status ≡ statuses.NoMemory))

-- and one in which, behind frames, none begins is refused at that place
abbrev pub RefusesRest : Option (List ℕ) → Status → Type 0
RefusesRest left status = IfSome left (λ stream. (questions : List Question) (front behind : List ℕ) → length stream < longest_stream →
    stream ≡ front ++ behind → Each IsAsked questions front → BeginsNoFrame behind →
    (status ≡ statuses.Malformed (length front)) ⊎ (status ≡ statuses.NoMemory))
