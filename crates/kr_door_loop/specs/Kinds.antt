-- The kinds of questions, each with its number. This project's own.
use Rattle.std.specs.Prelude.{ℕ}
use Rattle.kr_door_loop.specs.declared.kind.QuestionKind.{QuestionKind}
use Rattle.kr_door_loop.specs.declared.kind.QuestionKind.TheVariants as kinds

abbrev pub question_number : QuestionKind → ℕ
question_number kinds.LogLines = 1
question_number kinds.ImageLines = 2
question_number kinds.Fold = 3
question_number kinds.ImageBatches = 4
question_number kinds.Elect = 5
question_number kinds.Place = 6
question_number kinds.Plan = 7
question_number kinds.Reply = 8
question_number kinds.Request = 9
