-- Active brokers: in a walk, and by their ids.
use Rattle.std.proofs.Common.{◌≡◌, ◌∙◌, ℤ, true, false, cond, List, [], ◌∷◌, refl, sym, ap, subst}
use Rattle.std.specs.Prelude.{Some, filter, map, if◌then◌else◌}
use Rattle.std.specs.declared.cmp.Ordering.TheVariants.{Less}
use Rattle.std.specs.Ordering.{int_cmp, int_eq, is_eq}
use Rattle.std.specs.List.{AllByRecursion, flat_map}
use Rattle.std.specs.List.Sorted.{IsStrictlySortedBy}
use Rattle.std.specs.Map.{keys_of}
use Rattle.std.specs.Option.{option_map_or}
use Rattle.std.proofs.lemmas.Bool.Decides.{Decides-int_eq}
use Rattle.std.proofs.lemmas.Cmp.{int_eq_equiv}
use Rattle.kr_defs.specs.declared.broker.Broker.{Broker}
use Rattle.kr_defs.specs.Brokers.{is_active, active_of}
use Rattle.kr_defs.specs.Ids.{has}
use Rattle.kr_defs.specs.Image.{Image}
use Rattle.kr_defs.specs.Map.{IsMap, get}
use Rattle.kr_defs.specs.Placed.{Rack}
use Rattle.kr_calls.specs.NewPartitions.{racked}
use Rattle.kr_listing.proofs.Parts.{given_parts}

pub racks : (image : Image) (rows : List (ℤ × Rack)) → rows ≡ flat_map (λ (e : ℤ × Broker). if is_active e.1 then (e.0, e.1.rack) ∷ [] else []) image.brokers → rows ≡ racked image
racks image rows is = is ∙ given_parts (λ (e : ℤ × Broker). is_active e.1) (λ e. (e.0, e.1.rack)) image.brokers

-- an id below all keys is that of no active broker
none_active : (id : ℤ) (es : List (ℤ × Broker)) → AllByRecursion (λ z. int_cmp id z ≡ Less) (keys_of es) → has (active_of es) id ≡ false
none_active id [] below = refl
none_active id (e ∷ es) below =
    let rest = none_active id es below.1 in
    let other : int_eq e.0 id ≡ false = int_eq_equiv.symm e.0 id ∙ ap is_eq below.0 in
    elim (is_active e.1) as (λ b. has (map (λ (e : ℤ × Broker). e.0) (cond b (e ∷ filter (λ e. is_active e.1) es) (filter (λ e. is_active e.1) es))) id ≡ false) [
      | true ↦ rw other rest
      | false ↦ rest
    ]

-- in a map an id is that of an active broker where its entry is one
pub active_by_id : (es : List (ℤ × Broker)) (id : ℤ) → IsMap int_cmp es → option_map_or is_active (get int_cmp es id) false ≡ has (active_of es) id
unfolding IsStrictlySortedBy
active_by_id [] id ordered = refl
active_by_id (e ∷ es) id ordered =
    elim (int_eq id e.0) as (λ b. int_eq id e.0 ≡ b → option_map_or is_active (cond b (Some e.1) (get int_cmp es id)) false ≡ has (active_of (e ∷ es)) id) [
      | true ↦ λ is.
          let same : id ≡ e.0 = (Decides-int_eq id e.0).0 is in
          let rest : has (active_of es) id ≡ false = subst (λ (x : ℤ). has (active_of es) x ≡ false) (sym same) (none_active e.0 es ordered.0) in
          let here : int_eq e.0 id ≡ true = int_eq_equiv.symm e.0 id ∙ is in
          elim (is_active e.1) as (λ b. b ≡ has (map (λ (e : ℤ × Broker). e.0) (cond b (e ∷ filter (λ e. is_active e.1) es) (filter (λ e. is_active e.1) es))) id) [
            | true ↦ rw here refl
            | false ↦ sym rest
          ]
      | false ↦ λ is.
          let other : int_eq e.0 id ≡ false = int_eq_equiv.symm e.0 id ∙ is in
          active_by_id es id ordered.1 ∙ elim (is_active e.1) as (λ b. has (active_of es) id ≡ has (map (λ (e : ℤ × Broker). e.0) (cond b (e ∷ filter (λ e. is_active e.1) es) (filter (λ e. is_active e.1) es))) id) [
            | true ↦ rw other refl
            | false ↦ refl
          ]
    ] refl
