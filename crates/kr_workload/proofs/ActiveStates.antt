-- The active ones of some brokers, one after the other.
use Rattle.std.proofs.Common.{◌≡◌, ◌<◌, ◌+◌, ℕ, ℤ, List, [], ◌∷◌, ◌++◌, Bool, true, false, cond, length, drop, get_or, append_assoc, refl, sym, ap, ◌∙◌}
use Rattle.std.specs.Prelude.{map, filter}
use Rattle.std.proofs.lemmas.List.{at_drop_more}
use Rattle.kr_calls.specs.declared.alter_partition.BrokerState.{BrokerState}
use Rattle.kr_defs.specs.Image.{Image}
use Rattle.kr_workload.specs.Requests.{active_states, is_active_broker, state_of_broker}

module _ (image : Image) where
  one_by_one : (b : Bool) (id : ℤ) (ids : List ℤ) → map (state_of_broker image) (cond b (id ∷ ids) ids) ≡ map (state_of_broker image) (cond b (id ∷ []) []) ++ map (state_of_broker image) ids
  one_by_one true id ids = refl
  one_by_one false id ids = refl

  pub states_more : (ids : List ℤ) (i : ℕ) (d : ℤ) → i < length ids → (so_far : List BrokerState)
      → (so_far ++ active_states image (get_or ids i d ∷ [])) ++ active_states image (drop (i + 1) ids) ≡ so_far ++ active_states image (drop i ids)
  states_more ids i d below so_far =
      append_assoc so_far (active_states image (get_or ids i d ∷ [])) (active_states image (drop (i + 1) ids))
      ∙ ap (λ (states : List BrokerState). so_far ++ states) (sym (at_drop_more (active_states image) ids i d below ∙ one_by_one (is_active_broker image (get_or ids i d)) (get_or ids i d) (filter (is_active_broker image) (drop (i + 1) ids))))
