-- Names, each once and in order.
use Rattle.std.proofs.Common.{◌≡◌, ℕ, List, [], ◌∷◌, refl, ap}
use Rattle.std.specs.declared.cmp.Ordering.TheVariants.{Less, Equal, Greater}
use Rattle.std.specs.BTreeMap.{insert_entry}
use Rattle.std.specs.Map.{keys_of}
use Rattle.std.specs.Ordering.{match_ordering}
use Rattle.kr_defs.specs.Map.{text_order}
use Rattle.kr_pages.specs.Lines.{name_before, with_name}

pub keys_with : {V : Type 0} (es : List (List ℕ × V)) (name : List ℕ) (value : V) → keys_of (insert_entry text_order es name value) ≡ with_name (keys_of es) name
keys_with [] name value = refl
keys_with (e ∷ es) name value =
    elim (text_order name e.0) as (λ o. keys_of (match_ordering o ((name, value) ∷ e ∷ es) ((e.0, value) ∷ es) (e ∷ insert_entry text_order es name value)) ≡ name_before o name e.0 (keys_of es) (with_name (keys_of es) name)) [
      | Less ↦ refl
      | Equal ↦ refl
      | Greater ↦ ap (λ (ks : List (List ℕ)). e.0 ∷ ks) (keys_with es name value)
    ]
