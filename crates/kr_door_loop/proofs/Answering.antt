-- The answer to a question, and its frame.
use Rattle.std.proofs.Common.{◌≡◌, ℕ, List, ◌∷◌, Option, Some, None, Err, refl, sym, subst}
use Rattle.std.specs.Io.KnownBytes.{Appends, Keeps}
use Rattle.kr_base.specs.FailedPuts.{AppendsFront}
use Rattle.kr_door_loop.specs.declared.kind.QuestionKind.{QuestionKind}
use Rattle.kr_door_loop.specs.declared.refusal.DoorRefusal.TheVariants as refusals
use Rattle.kr_door_loop.specs.Answers.{Answer, AnswersKind}
use Rattle.kr_door_loop.specs.Frames.{AnswerFits, AnswersQuestion, answer_bytes, known, lost, unknown}
use Rattle.kr_door_loop.specs.Kinds.{question_number}
use Rattle.kr_door_loop.specs.inner.Steps.{AnswersContent, FramesAnswer}

pub keeps_all : (a : Option (List ℕ)) → Keeps a a
keeps_all None = tt
keeps_all (Some x) = refl

module _ (number : ℕ) (body : List ℕ) where
  pub known_answer : (kind : QuestionKind) (answer : Answer) → number ≡ question_number kind → AnswersKind kind body answer → AnswersQuestion (record { kind = number; body = body }) answer
  known_answer kind answer named is = known kind named is

  pub unknown_answer : ((kind : QuestionKind) → number ≡ question_number kind → ⊥) → AnswersQuestion (record { kind = number; body = body }) (Err refusals.UnknownKind)
  unknown_answer none = unknown none refl

  pub frame_of_answer : (answer : Answer) (frame : List ℕ) → AnswersQuestion (record { kind = number; body = body }) answer → frame ≡ answer_bytes answer → AnswerFits answer → FramesAnswer number body frame
  frame_of_answer answer frame is bytes said = record { answer = answer; is = is; said = said; bytes = bytes }

  pub frame_of_none : (frame : List ℕ) → frame ≡ answer_bytes (Err refusals.NoMemory) → AnswerFits (Err refusals.NoMemory) → FramesAnswer number body frame
  frame_of_none frame bytes said = record { answer = Err refusals.NoMemory; is = lost refl; said = said; bytes = bytes }

  module _ (frame : List ℕ) (of : FramesAnswer number body frame) (written written' : Option (List ℕ)) where
    pub answer_put : Appends written written' frame → AnswersContent (Appends written written') (number ∷ body)
    answer_put put = record { kind = number; body = body; parts = refl; answer = of.answer; is = of.is; said = of.said; wrote = subst (Appends written written') of.bytes put }

    pub answer_front : AppendsFront written written' frame → AnswersContent (AppendsFront written written') (number ∷ body)
    answer_front put = record { kind = number; body = body; parts = refl; answer = of.answer; is = of.is; said = of.said; wrote = subst (AppendsFront written written') of.bytes put }
