-- Frames of questions and answers. This project's own.
use Rattle.std.specs.Prelude.{◌≡◌, ℕ, ◌+◌, ◌^◌, ◌<◌, ◌≤◌, List, [], ◌∷◌, ◌++◌, length, Result, Ok, Err}
use Rattle.std.specs.List.{flat_map}
use Rattle.std.specs.Int.{w32, w64}
use Rattle.kr_wire.specs.Grammar.{◌⌢◌, Exactly, IsNumber}
use Rattle.kr_wire.specs.Spelling.{number}
use Rattle.kr_door_loop.specs.declared.limits.TheConstants.{MOST_QUESTION_BYTES}
use Rattle.kr_door_loop.specs.declared.kind.QuestionKind.{QuestionKind}
use Rattle.kr_door_loop.specs.declared.refusal.DoorRefusal.TheVariants as refusals
use Rattle.kr_door_loop.specs.Answers.{Answer, AnswersKind}
use Rattle.kr_door_loop.specs.Kinds.{question_number}
use Rattle.kr_door_loop.specs.Refusals.{refusal_name, refusal_place}

-- ---- questions

pub record Question : Type 0 where
  pub kind : ℕ
  pub body : List ℕ

-- what stands behind a size is so long
abbrev pub IsContentFrame : List ℕ → List ℕ → Type 0
IsContentFrame content = IsNumber w32 (length content) ⌢ Exactly content

-- no longer than a frame may be, and with a kind
abbrev pub ContentFits : List ℕ → Type 0
ContentFits content = (0 < length content) × (length content ≤ MOST_QUESTION_BYTES)

abbrev pub content_of : Question → List ℕ
content_of q = q.kind ∷ q.body

-- ---- answers

-- an answer of its kind, or a kind that isn't known; or memory ran out
pub data AnswersQuestion (q : Question) (answer : Answer) : Type 0 where
  known : (kind : QuestionKind) → q.kind ≡ question_number kind → AnswersKind kind q.body answer → AnswersQuestion q answer
  unknown : ((kind : QuestionKind) → q.kind ≡ question_number kind → ⊥) → answer ≡ Err refusals.UnknownKind → AnswersQuestion q answer
  lost : answer ≡ Err refusals.NoMemory → AnswersQuestion q answer

-- 0 where the question is answered, 1 where it is refused
abbrev pub answer_kind : Answer → ℕ
answer_kind (Ok bytes) = 0
answer_kind (Err refusal) = 1

abbrev pub answer_body : Answer → List ℕ
answer_body (Ok bytes) = bytes
answer_body (Err refusal) = number w64 (refusal_place refusal) ++ refusal_name refusal

abbrev pub kind_frame : ℕ → List ℕ → List ℕ
kind_frame kind body = number w32 (length body + 1) ++ (kind ∷ body)

unfoldable pub answer_bytes : Answer → List ℕ
answer_bytes answer = kind_frame (answer_kind answer) (answer_body answer)

-- its size can be said
abbrev pub AnswerFits : Answer → Type 0
AnswerFits answer = length (answer_body answer) + 1 < 2 ^ 32

-- ---- one after the other

-- a question, the bytes of its frame, and its answer
pub record Turn : Type 0 where
  pub question : Question
  pub frame : List ℕ
  pub answer : Answer

pub record IsTurn (e : Turn) : Type 0 where
  pub asked : IsContentFrame (content_of e.question) e.frame
  pub fits : ContentFits (content_of e.question)
  pub answered : AnswersQuestion e.question e.answer
  pub said : AnswerFits e.answer

abbrev pub AreTurns : List Turn → Type 0
AreTurns [] = Unit {0}
AreTurns (e ∷ others) = IsTurn e × AreTurns others

abbrev pub asked_bytes : List Turn → List ℕ
asked_bytes turns = flat_map (λ (e : Turn). e.frame) turns

abbrev pub answered_bytes : List Turn → List ℕ
answered_bytes turns = flat_map (λ (e : Turn). answer_bytes e.answer) turns
