-- How an answer ends the wait of a client. This project's own.
use Rattle.std.specs.Prelude.{◌≡◌, ℤ, int_lt, IsTrue, Some, Result, Ok, Err}
use Rattle.kr_calls.specs.declared.answers.Answer.{Answer}
use Rattle.kr_calls.specs.declared.answers.AnswerKind.{AnswerKind}
use Rattle.kr_calls.specs.declared.answers.AnswerKind.TheVariants as kinds
use Rattle.kr_calls.specs.declared.answers.Answered.{Answered}
use Rattle.kr_calls.specs.declared.calls.Call.{Call}
use Rattle.kr_defs.specs.declared.limits.TheConstants.{GREATEST_TIP}
use Rattle.kr_shared.specs.declared.clients.SubmitFault.{SubmitFault}
use Rattle.kr_shared.specs.declared.clients.SubmitFault.TheVariants as faults

abbrev pub EndsByFault : AnswerKind → ℤ → ℤ → SubmitFault → Type 0
EndsByFault kind tip floor (faults.Ended number) = ⊥
EndsByFault kind tip floor (faults.Ahead named at) = (named ≡ floor) × (at ≡ tip) × IsTrue (int_lt tip floor) × (kind ≡ kinds.Ahead)
EndsByFault kind tip floor (faults.Exhausted at) = (at ≡ tip) × IsTrue (int_lt GREATEST_TIP tip) × (kind ≡ kinds.Exhausted)
EndsByFault kind tip floor faults.NoMemory = Unit {0}

-- where nothing was decided
abbrev pub EndsBare : AnswerKind → ℤ → ℤ → Result Answered SubmitFault → Type 0
EndsBare kind tip floor (Ok a) = ⊥
EndsBare kind tip floor (Err fault) = EndsByFault kind tip floor fault

abbrev pub Ends : Answer → ℤ → Call → Result Answered SubmitFault → Type 0
Ends answer floor call (Ok a) = (answer.answered ≡ Some a) × (a.floor ≡ floor) × (a.call ≡ call)
Ends answer floor call (Err fault) = EndsByFault answer.kind answer.place floor fault
