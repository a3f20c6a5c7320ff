-- What a refusal of a write tells.
use Rattle.std.proofs.Common.{◌≡◌, ◌∙◌, true, false, cond, ◌&&◌, [], ◌∷◌, refl, sym, ap}
use Rattle.std.specs.Prelude.{int_lt, is_some, option_to_list}
use Rattle.kr_calls.specs.declared.errors.TheConstants.{NOT_CONTROLLER}
use Rattle.kr_calls.specs.Decide.{query}
use Rattle.kr_calls.specs.Refuse.{refuse}
use Rattle.kr_model.specs.World.{image_of_closed, leads_in}
use Rattle.law_replies.specs.Losses.{NoneAtOnce, RefusedWithoutLead}

pub none_at_once : NoneAtOnce
none_at_once options s request write leads =
    ap (λ b. cond b (option_to_list (query options (image_of_closed s) request)) (cond (is_some s.world.leading) [] (refuse request NOT_CONTROLLER ∷ []))) write
    ∙ ap (λ b. cond b [] (refuse request NOT_CONTROLLER ∷ [])) leads

pub refused_without_lead : RefusedWithoutLead
refused_without_lead leading end write closed apart told =
    let same : cond (int_lt end write.need) write.refusal write.reply ≡ write.refusal = cc in
    elim (leads_in leading write.epoch) as (λ b. (b && int_lt end write.need) ≡ false → b ≡ false) [
      | true ↦ λ shown. absurd (apart (sym (ap (λ b. cond b write.refusal write.reply) shown) ∙ same))
      | false ↦ λ shown. refl
    ] closed
