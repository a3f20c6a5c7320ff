-- Whom a leader hears of where a broker is fenced that is registered, or isn't.
use Rattle.std.proofs.Common.{◌≡◌, ◌∙◌, sym, subst, ℤ, Bool, true, false, [], refl, ap, not}
use Rattle.std.specs.Prelude.{◌&&◌, Option, Some, None, Result, Ok}
use Rattle.std.specs.Option.{option_map_or}
use Rattle.std.specs.Ordering.{int_cmp, int_eq}
use Rattle.std.specs.Result.{result_unwrap_or}
use Rattle.kr_calls.specs.Deciding.{apply_records}
use Rattle.kr_calls.specs.TakingOut.{fencing}
use Rattle.kr_defs.specs.declared.broker.Broker.{Broker}
use Rattle.kr_defs.specs.declared.ill.Ill.{Ill}
use Rattle.kr_defs.specs.Brokers as brokers
use Rattle.kr_defs.specs.Heartbeats.{Heartbeats, leave}
use Rattle.kr_defs.specs.Ids.{has}
use Rattle.kr_defs.specs.Image.{Image, IsValid}
use Rattle.kr_defs.specs.Map as entries
use Rattle.kr_defs.proofs.HeartbeatLists.{leaves}
use Rattle.kr_defs.proofs.IdLists.{same_id}
use Rattle.law_safety.specs.HearingLaws.{HearsOf}
use Rattle.law_safety.proofs.BrokerTests.{by_get, passing}
use Rattle.law_safety.proofs.HearingRequests.{fencings_keep_hearing}

-- a broker that isn't registered passes no test
without_absent : (test : Broker → Bool) (image : Image) (k id : ℤ) → IsValid image → entries.get int_cmp image.brokers k ≡ None
    → (has (passing test image.brokers) id && not (int_eq id k)) ≡ has (passing test image.brokers) id
without_absent test image k id valid absent =
    let ids = passing test image.brokers in
    elim (int_eq id k) as (λ b. int_eq id k ≡ b → (has ids id && not b) ≡ has ids id) [
      | true ↦ λ same.
          let none : has ids id ≡ false = ap (has ids) (same_id id k same) ∙ (by_get test image.brokers k valid.brokers.ordered ∙ ap (λ o. option_map_or test o false) absent) in
          ap (λ b. b && false) none ∙ sym none
      | false ↦ λ other. and_true (has ids id)
    ] refl
  where
    and_true : (b : Bool) → (b && true) ≡ b
    and_true true = refl
    and_true false = refl

absent_leaves : (h : Heartbeats) (image : Image) (k : ℤ) → IsValid image → entries.get int_cmp image.brokers k ≡ None → HearsOf h image → HearsOf (leave h k) image
absent_leaves h image k valid absent hears = record {
  contacts = λ id. (leaves h k id).contacts ∙ (ap (λ b. b && not (int_eq id k)) (hears.contacts id) ∙ without_absent (λ b. not b.fenced) image k id valid absent);
  stopping_ones = λ id. (leaves h k id).stopping ∙ (ap (λ b. b && not (int_eq id k)) (hears.stopping_ones id) ∙ without_absent brokers.is_stopping image k id valid absent);
}

pub hears_by : (minimum : ℤ) (h : Heartbeats) (image after : Image) (k : ℤ) (o : Option Broker) → IsValid image → entries.get int_cmp image.brokers k ≡ o → HearsOf h image
    → apply_records image (option_map_or (λ (state : Broker). fencing minimum image k state.epoch) o []) ≡ Ok after → HearsOf (leave h k) after
hears_by minimum h image after k None valid absent hears is = subst (HearsOf (leave h k)) (ap (λ (r : Result Image Ill). result_unwrap_or r image) is) (absent_leaves h image k valid absent hears)
hears_by minimum h image after k (Some state) valid there hears is = fencings_keep_hearing minimum h image after k state valid there hears is
