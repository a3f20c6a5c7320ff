-- The keys that operations named, as a map in order of insertion has them.
use Rattle.std.proofs.Common.{◌≡◌, ◌∙◌, ℕ, Bool, true, false, cond, List, [], ◌∷◌, refl, sym, ap, subst}
use Rattle.std.specs.Prelude.{Option, Some, None, map, find, bytes_eq}
use Rattle.std.specs.Borrow.{Bor}
use Rattle.std.specs.Cmp.Lexicographic.{bytes_decides, nat_list_eq_equiv}
use Rattle.std.specs.Map.{lookup}
use Rattle.std.specs.Option.{option_map}
use Rattle.indexmap.specs.IndexMap.{insert_entry}
use Rattle.kr_calls.specs.IncrementalAlterConfigs.{Values, with_value}
use Rattle.kr_configs.specs.NamedKeys.{AreOnce}

-- texts that test as the same are the same
pub same_text : (x y : List ℕ) → bytes_eq x y ≡ true → x ≡ y
same_text x y is = (bytes_decides x y).0 is

abbrev pub Named : Type 0
Named = List (Bor (List ℕ) × Option (List ℕ))

abbrev pub seen : Named → Values
seen es = map (λ (e : Bor (List ℕ) × Option (List ℕ)). (e.0.now, e.1)) es

-- a look-up by one side of the test finds what one by the other finds
pub looked_up : (key : List ℕ) (es : Named) → lookup (λ (k : Bor (List ℕ)). bytes_eq key k.now) es ≡ option_map (λ (v : List ℕ × Option (List ℕ)). v.1) (find (λ (v : List ℕ × Option (List ℕ)). bytes_eq v.0 key) (seen es))
looked_up key [] = refl
looked_up key (e ∷ es) =
    rw (nat_list_eq_equiv.symm key e.0.now)
    (elim (bytes_eq e.0.now key) as (λ b. cond b (Some e.1) (lookup (λ (k : Bor (List ℕ)). bytes_eq key k.now) es) ≡ option_map (λ (v : List ℕ × Option (List ℕ)). v.1) (cond b (Some (e.0.now, e.1)) (find (λ (v : List ℕ × Option (List ℕ)). bytes_eq v.0 key) (seen es)))) [
      | true ↦ refl
      | false ↦ looked_up key es
    ])

-- a key that is there keeps its place and takes the value
pub seen_after : (es : Named) (key : Bor (List ℕ)) (value : Option (List ℕ)) → seen (insert_entry (λ (x y : Bor (List ℕ)). bytes_eq x.now y.now) es key value) ≡ with_value (seen es) key.now value
seen_after [] key value = refl
seen_after (e ∷ es) key value =
    elim (bytes_eq key.now e.0.now) as (λ b. bytes_eq key.now e.0.now ≡ b → seen (cond b ((e.0, value) ∷ es) (e ∷ insert_entry (λ (x y : Bor (List ℕ)). bytes_eq x.now y.now) es key value)) ≡ cond b ((key.now, value) ∷ seen es) ((e.0.now, e.1) ∷ with_value (seen es) key.now value)) [
      | true ↦ λ is. ap (λ k. (k, value) ∷ seen es) (sym (same_text key.now e.0.now is))
      | false ↦ λ is. ap (λ vs. (e.0.now, e.1) ∷ vs) (seen_after es key value)
    ] refl ∙ ap (λ b. cond b ((key.now, value) ∷ seen es) ((e.0.now, e.1) ∷ with_value (seen es) key.now value)) (nat_list_eq_equiv.symm key.now e.0.now)

-- ---- each key stands once

none_parts : {X : Type 0} (b : Bool) (x : X) (rest : Option X) → cond b (Some x) rest ≡ None → (b ≡ false) × (rest ≡ None)
none_parts true x rest none = absurd cc
none_parts false x rest none = (refl, none)

none_named : (vs : Values) (key other : List ℕ) (value : Option (List ℕ)) → bytes_eq key other ≡ false → find (λ w. bytes_eq w.0 other) vs ≡ None → find (λ w. bytes_eq w.0 other) (with_value vs key value) ≡ None
none_named [] key other value apart none = rw apart refl
none_named (v ∷ vs) key other value apart none =
    let parts = none_parts (bytes_eq v.0 other) v (find (λ w. bytes_eq w.0 other) vs) none in
    elim (bytes_eq v.0 key) as (λ b. find (λ w. bytes_eq w.0 other) (cond b ((key, value) ∷ vs) (v ∷ with_value vs key value)) ≡ None) [
      | true ↦ rw apart parts.1
      | false ↦ rw parts.0 (none_named vs key other value apart parts.1)
    ]

pub once_after : (vs : Values) (key : List ℕ) (value : Option (List ℕ)) → AreOnce vs → AreOnce (with_value vs key value)
once_after [] key value once = (refl, tt)
once_after (v ∷ vs) key value once =
    elim (bytes_eq v.0 key) as (λ b. bytes_eq v.0 key ≡ b → AreOnce (cond b ((key, value) ∷ vs) (v ∷ with_value vs key value))) [
      | true ↦ λ is. (subst (λ k. find (λ w. bytes_eq w.0 k) vs ≡ None) (same_text v.0 key is) once.0, once.1)
      | false ↦ λ is. (none_named vs key v.0 value (nat_list_eq_equiv.symm key v.0 ∙ is) once.0, once_after vs key value once.1)
    ] refl
