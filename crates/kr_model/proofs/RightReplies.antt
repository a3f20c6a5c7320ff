-- The reply of a write is right where it is given out.
use Rattle.std.proofs.Common.{◌≡◌, ◌∙◌, sym, subst, ℕ, ℤ, pos, Bool, true, false, cond, List, length, ap}
use Rattle.std.specs.Prelude.{int_lt}
use Rattle.kr_calls.specs.declared.answers.Answered.{Answered}
use Rattle.kr_calls.specs.declared.answers.AnswerKind.TheVariants as kinds
use Rattle.kr_calls.specs.declared.calls.Call.{Call}
use Rattle.kr_calls.specs.declared.errors.TheConstants.{NOT_CONTROLLER}
use Rattle.kr_calls.specs.declared.events.Entry.{Entry}
use Rattle.kr_calls.specs.Decide.{Decision, decide}
use Rattle.kr_calls.specs.Refuse.{refuse}
use Rattle.kr_calls.specs.RightAnswers.{HaveRecords, IsRightAs, decided_below}
use Rattle.kr_calls.specs.SeatList.{image_below}
use Rattle.kr_defs.specs.declared.basis.Basis.{Basis}
use Rattle.kr_defs.specs.declared.options.Options.{Options}
use Rattle.kr_defs.specs.Image.{Image}
use Rattle.kr_model.specs.Outputs.{write_of}
use Rattle.kr_model.specs.Request.{decision}
use Rattle.kr_model.specs.RightReplies.{HasDecisionOf, IsAnswerOf, RepliesAreRight}
use Rattle.kr_model.specs.World.{State, image_of_tip, tip_of}

module _ (options : Options) (s : State) (client : ℕ) (call : Call) (end : ℤ) (list : List Entry) (a : Answered) (is : IsAnswerOf call end (write_of options s client call) a) where
  -- the rules say the same of the call on the list
  same_decision : image_below (pos (tip_of s)) list ≡ image_of_tip s → decided_below options list a ≡ decision options s call.request
  same_decision image =
      ap (λ (c : Call). decide options (image_below a.place list) a.basis a.place c.request) is.call_is
      ∙ (ap (λ (b : Basis). decide options (image_below a.place list) b a.place call.request) is.basis
      ∙ (ap (λ p. decide options (image_below p list) s.basis p call.request) is.place
      ∙ ap (λ (i : Image). decide options i s.basis (pos (tip_of s)) call.request) image))

  -- whether it was lost
  right_by : (b : Bool) → a.reply ≡ cond b (refuse call.request NOT_CONTROLLER) (decision options s call.request).reply → HasDecisionOf (cond b kinds.Lost kinds.Stands) options s call list → IsRightAs (cond b kinds.Lost kinds.Stands) options list a
  right_by true reply has = reply ∙ ap (λ (c : Call). refuse c.request NOT_CONTROLLER) (sym is.call_is)
  right_by false reply has =
      let same = same_decision has.image in record {
        count = ap (λ (d : Decision). length d.records) same ∙ sym is.count;
        records =
            subst (λ (d : Decision). HaveRecords list a.place d.records) (sym same)
            (subst (λ p. HaveRecords list p (decision options s call.request).records) (sym is.place) has.records);
        reply = reply ∙ ap (λ (d : Decision). d.reply) (sym same);
      }

pub replies_are_right : RepliesAreRight
replies_are_right options s client call end list a is has =
    right_by options s client call end list a is (int_lt end (write_of options s client call).need) is.reply has
