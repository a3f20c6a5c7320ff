-- What a found answer tells of a call.
use Rattle.std.proofs.Common.{◌≡◌, ◌∙◌, List, ℕ, ℤ, subst, refl, sym, ap}
use Rattle.std.specs.Prelude.{Some, Option, IfOk, IfErr, MatchOption, Result, Ok, Err}
use Rattle.kr_calls.specs.declared.answers.Answer.{Answer}
use Rattle.kr_calls.specs.declared.answers.Answered.{Answered}
use Rattle.kr_calls.specs.declared.calls.Call.{Call}
use Rattle.kr_calls.specs.declared.events.Entry.{Entry}
use Rattle.kr_calls.specs.declared.seat_entry.SeatEntry.TheVariants as told
use Rattle.kr_calls.specs.RightAnswers.{IsRightAs, IsTo}
use Rattle.kr_defs.specs.declared.options.Options.{Options}
use Rattle.kr_view.specs.declared.looks.Look.TheVariants as looks
use Rattle.kr_view.specs.declared.rule.ThreadView.{ThreadView}
use Rattle.kr_view.specs.Looks.{HasRight, LookTells}
use Rattle.kr_shared.specs.declared.clients.SubmitFault.{SubmitFault}
use Rattle.kr_shared.specs.declared.clients.SubmitFault.TheVariants as faults
use Rattle.kr_shared.specs.Ends.{Ends}
use Rattle.kr_shared.specs.Submit.{HasAnswer, IsAnswered, IsSubmitCause}

is_to : (options : Options) (before : List Entry) (answer : Answer) (o : Option Answered) (a : Answered) → o ≡ Some a → MatchOption o (Unit {0}) (λ a. IsTo a answer × IsRightAs answer.kind options before a) → IsTo a answer
is_to options before answer o a is right = (subst (λ (q : Option Answered). MatchOption q (Unit {0}) (λ a. IsTo a answer × IsRightAs answer.kind options before a)) is right).0

held : (seen : ThreadView) (seat ticket : ℕ) (answer : Answer) → LookTells seen.options seat ticket seen.list (looks.Found (told.Answer answer)) → HasAnswer seen seat ticket answer
held seen seat ticket answer t = record { right = t.0; of_seat = t.1; of_ticket = t.2 }

by_fault : (seen : ThreadView) (seat ticket : ℕ) (floor : ℤ) (call : Call) (answer : Answer) (fault : SubmitFault) → HasAnswer seen seat ticket answer → Ends answer floor call (Err fault) → IsSubmitCause seen seat ticket floor fault
by_fault seen seat ticket floor call answer (faults.Ended number) h e = absurd e
by_fault seen seat ticket floor call answer (faults.Ahead named tip) h e =
    (e.0, subst (λ z. Rattle.std.specs.Prelude.int_lt z floor ≡ Rattle.std.specs.Prelude.true) (sym e.1) e.2, record { answer = answer; held = h; of_kind = e.3; at = sym e.1 })
by_fault seen seat ticket floor call answer (faults.Exhausted tip) h e =
    (subst (λ z. Rattle.std.specs.Prelude.int_lt Rattle.kr_defs.specs.declared.limits.TheConstants.GREATEST_TIP z ≡ Rattle.std.specs.Prelude.true) (sym e.0) e.1, record { answer = answer; held = h; of_kind = e.2; at = sym e.0 })
by_fault seen seat ticket floor call answer faults.NoMemory h e = tt

pub ends_ok : (seen : ThreadView) (seat ticket : ℕ) (floor : ℤ) (call : Call) (answer : Answer) (end : Result Answered SubmitFault) → LookTells seen.options seat ticket seen.list (looks.Found (told.Answer answer)) → Ends answer floor call end
    → IfOk end (λ a. IsAnswered seen seat ticket floor call a)
ends_ok seen seat ticket floor call answer (Ok a) t e =
    let to = is_to seen.options t.0.0 answer answer.answered a e.0 t.0.3 in record {
      answer = answer;
      held = held seen seat ticket answer t;
      holds = e.0;
      of_seat = to.seat ∙ t.1;
      of_ticket = to.ticket ∙ t.2;
      of_floor = e.1;
      of_call = e.2;
    }
ends_ok seen seat ticket floor call answer (Err fault) t e = tt

pub ends_err : (seen : ThreadView) (seat ticket : ℕ) (floor : ℤ) (call : Call) (answer : Answer) (end : Result Answered SubmitFault) → LookTells seen.options seat ticket seen.list (looks.Found (told.Answer answer)) → Ends answer floor call end
    → IfErr end (λ fault. IsSubmitCause seen seat ticket floor fault)
ends_err seen seat ticket floor call answer (Ok a) t e = tt
ends_err seen seat ticket floor call answer (Err fault) t e = by_fault seen seat ticket floor call answer fault (held seen seat ticket answer t) e

pub ruleset ends_found = (ends_ok, ends_err)
