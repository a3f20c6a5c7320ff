-- The ids of the brokers that a test accepts.
use Rattle.std.proofs.Common.{◌≡◌, ◌∙◌, ℤ, Bool, true, false, not, ◌&&◌, ◌||◌, cond, List, [], ◌∷◌, ◌++◌, refl, sym, ap, subst}
use Rattle.std.specs.Prelude.{Option, Some, None, filter, map}
use Rattle.std.specs.declared.cmp.Ordering.TheVariants.{Less, Equal, Greater}
use Rattle.std.specs.Ordering.{is_eq, ordering_reverse, int_cmp, int_eq}
use Rattle.std.specs.List.{AllByRecursion}
use Rattle.std.specs.List.Sorted.{IsStrictlySortedBy}
use Rattle.std.specs.Map.{keys_of}
use Rattle.std.proofs.lemmas.Cmp.{int_cmp_total}
use Rattle.kr_defs.specs.declared.broker.Broker.{Broker}
use Rattle.kr_defs.specs.Ids.{has, without}
use Rattle.kr_defs.specs.Map.{IsMap, get}
use Rattle.kr_defs.proofs.IdLists.{same_id}
use Rattle.kr_defs.proofs.Maps.{below_all, none_below}
use Rattle.kr_defs.proofs.Walks.{behind_apart}
use Rattle.kr_replication.specs.BrokerIds.{ids_where}

pub ids_in_parts : (test : ℤ × Broker → Bool) (e : ℤ × Broker) (es : List (ℤ × Broker)) → ids_where test (e ∷ es) ≡ ids_where test (e ∷ []) ++ ids_where test es
ids_in_parts test e es =
    elim (test e) as (λ b. map (λ e. e.0) (cond b (e ∷ filter test es) (filter test es)) ≡ map (λ e. e.0) (cond b (e ∷ []) []) ++ ids_where test es) [ true ↦ refl | false ↦ refl ]

-- but for those: a test of each broker
pub ids_without : (test : ℤ × Broker → Bool) (those : List ℤ) (es : List (ℤ × Broker)) → without (ids_where test es) those ≡ ids_where (λ e. test e && not (has those e.0)) es
ids_without test those [] = refl
ids_without test those (e ∷ es) =
    let both : ℤ × Broker → Bool = λ e. test e && not (has those e.0) in
    let rest = ids_without test those es in
    elim (test e) as (λ b. without (map (λ (e : ℤ × Broker). e.0) (cond b (e ∷ filter test es) (filter test es))) those ≡ map (λ (e : ℤ × Broker). e.0) (cond (b && not (has those e.0)) (e ∷ filter both es) (filter both es))) [
      | true ↦ elim (not (has those e.0)) as (λ b. cond b (e.0 ∷ without (ids_where test es) those) (without (ids_where test es) those) ≡ map (λ (e : ℤ × Broker). e.0) (cond b (e ∷ filter both es) (filter both es))) [
        | true ↦ ap (λ (ids : List ℤ). e.0 ∷ ids) rest
        | false ↦ rest
      ]
      | false ↦ rest
    ]

-- ---- whether the test accepts the broker of an id

module _ (test : ℤ × Broker → Bool) (id : ℤ) where
  abbrev ids : List (ℤ × Broker) → List ℤ
  ids es = ids_where test es

  none_behind : (es : List (ℤ × Broker)) → AllByRecursion (λ z. int_cmp id z ≡ Less) (keys_of es) → has (ids es) id ≡ false
  none_behind [] a = refl
  none_behind (e ∷ es) a =
      elim (test e) as (λ b. has (map (λ (e : ℤ × Broker). e.0) (cond b (e ∷ filter test es) (filter test es))) id ≡ false) [
        | true ↦ ap (λ b. b || has (ids es) id) (behind_apart int_cmp_total id e.0 a.0) ∙ none_behind es a.1
        | false ↦ none_behind es a.1
      ]

  abbrev is_accepted : Option Broker → Bool
  is_accepted None = false
  is_accepted (Some state) = test (id, state)

  has_accepted : (es : List (ℤ × Broker)) → IsMap int_cmp es → has (ids es) id ≡ is_accepted (get int_cmp es id)
  unfolding IsStrictlySortedBy
  has_accepted [] s = refl
  has_accepted (e ∷ es) s =
      elim (int_cmp id e.0) as (λ r. int_cmp id e.0 ≡ r → has (ids (e ∷ es)) id ≡ is_accepted (cond (is_eq r) (Some e.1) (get int_cmp es id))) [
        | Less ↦ λ is.
            let below = below_all int_cmp_total id e.0 (keys_of es) is s.0 in
            none_behind (e ∷ es) (is, below) ∙ sym (ap is_accepted (none_below int_cmp_total es id below))
        | Equal ↦ λ is.
            let same : id ≡ e.0 = same_id id e.0 (ap is_eq is) in
            let found : int_eq e.0 id ≡ true = ap is_eq (int_cmp_total.antisymm e.0 id ∙ ap ordering_reverse is) in
            let rest = none_behind es (subst (λ (z : ℤ). AllByRecursion (λ y. int_cmp z y ≡ Less) (keys_of es)) (sym same) s.0) in
            elim (test e) as (λ b. has (map (λ (e : ℤ × Broker). e.0) (cond b (e ∷ filter test es) (filter test es))) id ≡ b) [
              | true ↦ ap (λ b. b || has (ids es) id) found
              | false ↦ rest
            ]
            ∙ ap (λ (z : ℤ). test (z, e.1)) (sym same)
        | Greater ↦ λ is.
            let apart : int_eq e.0 id ≡ false = ap is_eq (int_cmp_total.antisymm e.0 id ∙ ap ordering_reverse is) in
            elim (test e) as (λ b. has (map (λ (e : ℤ × Broker). e.0) (cond b (e ∷ filter test es) (filter test es))) id ≡ has (ids es) id) [
              | true ↦ ap (λ b. b || has (ids es) id) apart
              | false ↦ refl
            ]
            ∙ has_accepted es s.1
      ] refl

  module _ (es : List (ℤ × Broker)) (ordered : IsMap int_cmp es) where
    pub accepted : (state : Broker) → Some state ≡ get int_cmp es id → test (id, state) ≡ has (ids_where test es) id
    accepted state found = ap is_accepted found ∙ sym (has_accepted es ordered)

    pub unknown : None ≡ get int_cmp es id → false ≡ has (ids_where test es) id
    unknown none = ap is_accepted none ∙ sym (has_accepted es ordered)
