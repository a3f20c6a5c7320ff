-- Placed replicas are active brokers, each once, and as many as were asked for where there are so many.
use Rattle.std.proofs.Common.{◌≡◌, ◌∙◌, sym, refl, ap, subst, true, false, not, ℕ, ℤ, List, [], ◌∷◌, length, map, arith, inl, inr}
use Rattle.std.specs.Prelude.{filter, nat_le}
use Rattle.std.specs.List.{AllByRecursion, Contains, IsDistinct}
use Rattle.std.specs.Ordering.{int_cmp, int_eq}
use Rattle.std.proofs.lemmas.Bool.{and_from, cases_Bool, leb-true}
use Rattle.std.proofs.lemmas.List.Elements.{All-contains, All-weaker}
use Rattle.std.proofs.lemmas.List.Sums.{AllPass-from_list_all, list_all-from_AllPass}
use Rattle.std.proofs.lemmas.Map.Keys.{IsDistinct-from_sorted}
use Rattle.kr_defs.specs.declared.broker.Broker.{Broker}
use Rattle.kr_defs.specs.Brokers.{active, is_active}
use Rattle.kr_defs.specs.Ids.{has, is_distinct, is_within}
use Rattle.kr_defs.specs.Image.{Image, IsValid}
use Rattle.kr_defs.specs.Placed.{placed}
use Rattle.kr_defs.proofs.IdLists.{all_from, same_id}
use Rattle.kr_defs.proofs.Maps.{IsMap-filter}
use Rattle.kr_calls.specs.NewPartitions.{racked}
use Rattle.kr_place.specs.Spread.{IsSpread, ids_of}
use Rattle.kr_place.proofs.DistinctBrokers.{length-ids}
use Rattle.kr_place.proofs.Spread.{spread}

-- ---- lists of ids

swapped : (x y : ℤ) → int_eq x y ≡ false → int_eq y x ≡ false
swapped x y differ = elim (cases_Bool (int_eq y x)) [
  | inl same ↦ let e : int_eq x y ≡ int_eq y x = ap (λ z. int_eq z y) (sym (same_id y x same)) ∙ ap (λ z. int_eq y z) (same_id y x same) in cc
  | inr other ↦ other
]

absent : (x : ℤ) (ids : List ℤ) → AllByRecursion (λ y. int_eq x y ≡ false) ids → has ids x ≡ false
absent x [] differ = refl
absent x (y ∷ ids) differ = rw (swapped x y differ.0) (absent x ids differ.1)

distinct_from : (ids : List ℤ) → IsDistinct int_eq ids → is_distinct ids ≡ true
unfolding IsDistinct
distinct_from [] once = refl
distinct_from (x ∷ ids) once = and_from (not (has ids x)) (is_distinct ids) (ap not (absent x ids once.0)) (distinct_from ids once.1)

listed : (ids : List ℤ) (id : ℤ) → Contains ids id → has ids id ≡ true
listed ids id = All-contains (λ x. has ids x ≡ true) ids id (AllPass-from_list_all (has ids) ids (all_from (has ids) ids (λ x there. there)))

-- ---- the active brokers with their racks

racks_left : (brokers : List (ℤ × Broker)) → ids_of (map (λ (e : ℤ × Broker). (e.0, e.1.rack)) brokers) ≡ map (λ (e : ℤ × Broker). e.0) brokers
racks_left [] = refl
racks_left (e ∷ brokers) = ap (λ ids. e.0 ∷ ids) (racks_left brokers)

racked_ids : (image : Image) → ids_of (racked image) ≡ active image
racked_ids image = racks_left (filter (λ e. is_active e.1) image.brokers)

module _ (image : Image) (valid : IsValid image) (start factor : ℕ) where
  once : IsDistinct int_eq (ids_of (racked image))
  once = subst (IsDistinct int_eq) (sym (racked_ids image)) (IsDistinct-from_sorted int_cmp (active image) (IsMap-filter int_cmp (λ e. is_active e.1) image.brokers valid.brokers.ordered))

  spread_over : IsSpread (racked image) factor (placed (racked image) start factor)
  spread_over = spread (racked image) start factor once

  pub placed_distinct : is_distinct (placed (racked image) start factor) ≡ true
  placed_distinct = distinct_from (placed (racked image) start factor) spread_over.distinct

  pub placed_within : is_within (placed (racked image) start factor) (active image) ≡ true
  placed_within =
      list_all-from_AllPass (has (active image)) (placed (racked image) start factor)
      (All-weaker (Contains (ids_of (racked image))) (λ id. has (active image) id ≡ true) (λ id there. listed (active image) id (subst (λ ids. Contains ids id) (racked_ids image) there))
      (placed (racked image) start factor) spread_over.members)

  pub placed_count : nat_le factor (length (active image)) ≡ true → length (placed (racked image) start factor) ≡ factor
  placed_count enough =
      let of_ids = sym (length-ids (racked image)) ∙ ap (λ (ids : List ℤ). length ids) (racked_ids image) in
      let le = leb-true factor (length (active image)) enough in
      spread_over.count ∙ omega (arith, of_ids, le)
