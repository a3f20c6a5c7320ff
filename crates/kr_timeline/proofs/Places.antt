-- Where the entry of an epoch stands, in a list of which the epochs rise.
use Rattle.std.proofs.Common.{◌≡◌, ◌<◌, List, [], ◌∷◌, ◌++◌, Some, None, Bool, true, false, cond, ℕ, ℤ, ◌+◌, length, refl, sym, ap, ◌∙◌, arith, find, suc, zero, slice_get, get_or, map, subst, nat_lt}
use Rattle.std.specs.Ordering.{int_eq, int_cmp, is_eq, is_lt, ordering_index, ordering_reverse}
use Rattle.std.specs.Cmp.{int_cmp_total}
use Rattle.std.specs.List.{AllByRecursion, HoldsAt}
use Rattle.std.specs.List.Sorted.{IsStrictlySortedBy, IsNonDecreasingBy, IsPartitionPoint}
use Rattle.std.specs.declared.cmp.Ordering.TheVariants.{Less, Equal, Greater}
use Rattle.std.proofs.lemmas.Bool.Decides.{Decides-int_eq}
use Rattle.std.proofs.lemmas.Map.Keys.{Less-from_sorted}
use Rattle.std.proofs.lemmas.List.Sorted.{searchable_from_sorted}
use Rattle.std.proofs.lemmas.Option.{slice_get_read}
use Rattle.kr_timeline.specs.Intervals.{StandsAt}

pub get_length : {X : Type 0} (front : List X) (x : X) (back : List X) → slice_get (front ++ x ∷ back) (length front) ≡ Some x
get_length [] x back = refl
get_length (y ∷ front) x back = get_length front x back

module _ {X : Type 0} (epoch_of : X → ℤ) where
  below_later : (low : ℤ) (front : List X) (x : X) (back : List X) → AllByRecursion (λ z. int_cmp low z ≡ Less) (map epoch_of (front ++ x ∷ back)) → int_cmp low (epoch_of x) ≡ Less
  below_later low [] x back a = a.0
  below_later low (y ∷ front) x back a = below_later low front x back a.1

  pub stands_found : (list : List X) (epoch : ℤ) (place : ℕ) → IsStrictlySortedBy int_cmp (map epoch_of list) → place < length list → HoldsAt (λ x. int_cmp (epoch_of x) epoch ≡ Equal) list place → StandsAt list epoch_of epoch place
  unfolding IsStrictlySortedBy
  stands_found [] epoch place s lt h = absurd (omega arith)
  stands_found (x ∷ list) epoch zero s lt h =
      let here : int_eq (epoch_of x) epoch ≡ true = ap is_eq (h x) in
      record { front = []; here = x; back = list; is = refl; at = refl; epoch_is = (Decides-int_eq (epoch_of x) epoch).0 here; found = ap (λ b. cond b (Some x) (find (λ y. int_eq (epoch_of y) epoch) list)) here }
  stands_found (x ∷ list) epoch (suc place) s lt h =
      let rest : StandsAt list epoch_of epoch place = stands_found list epoch place s.1 (omega arith) h in
      let below : int_cmp (epoch_of x) (epoch_of rest.here) ≡ Less = below_later (epoch_of x) rest.front rest.here rest.back (subst (λ (xs : List X). AllByRecursion (λ z. int_cmp (epoch_of x) z ≡ Less) (map epoch_of xs)) rest.is s.0) in
      let apart : int_eq (epoch_of x) epoch ≡ false = ap (λ e. int_eq (epoch_of x) e) (sym rest.epoch_is) ∙ ap is_eq below in
      record {
        front = x ∷ rest.front;
        here = rest.here;
        back = rest.back;
        is = ap (λ (xs : List X). x ∷ xs) rest.is;
        at = ap (λ n. suc n) rest.at;
        epoch_is = rest.epoch_is;
        found = ap (λ b. cond b (Some x) (find (λ y. int_eq (epoch_of y) epoch) list)) apart ∙ rest.found;
      }

  none_found : (test : X → Bool) (list : List X) → ((k : ℕ) (d : X) → k < length list → test (get_or list k d) ≡ false) → find test list ≡ None
  none_found test [] h = refl
  none_found test (x ∷ list) h = ap (λ b. cond b (Some x) (find test list)) (h 0 x (omega arith)) ∙ none_found test list (λ k d lt. h (suc k) d (omega arith))

  get-epoch : (list : List X) (k : ℕ) (d : X) → get_or (map epoch_of list) k (epoch_of d) ≡ epoch_of (get_or list k d)
  get-epoch [] k d = refl
  get-epoch (x ∷ list) zero d = refl
  get-epoch (x ∷ list) (suc k) d = get-epoch list k d

  length-epochs : (list : List X) → length (map epoch_of list) ≡ length list
  length-epochs [] = refl
  length-epochs (x ∷ list) = ap (λ n. suc n) (length-epochs list)

  rising_pair : (list : List X) (k : ℕ) (d : X) → IsStrictlySortedBy int_cmp (map epoch_of list) → k + 1 < length list → is_lt (int_cmp (epoch_of (get_or list (k + 1) d)) (epoch_of (get_or list k d))) ≡ false
  rising_pair list k d s lt =
      let up : int_cmp (epoch_of (get_or list k d)) (epoch_of (get_or list (k + 1) d)) ≡ Less = rw (← get-epoch list k d, ← get-epoch list (k + 1) d) (Less-from_sorted int_cmp (map epoch_of list) k (k + 1) (epoch_of d) s (omega arith) (omega (arith, length-epochs list))) in
      ap is_lt (int_cmp_total.antisymm (epoch_of (get_or list (k + 1) d)) (epoch_of (get_or list k d)) ∙ ap ordering_reverse up)

  pub searchable : (list : List X) (epoch : ℤ) → IsStrictlySortedBy int_cmp (map epoch_of list) → IsNonDecreasingBy (λ x. ordering_index (int_cmp (epoch_of x) epoch)) list
  searchable list epoch s = searchable_from_sorted int_cmp_total epoch_of list epoch (λ k d low lt. rising_pair list k d s lt)

  pub nowhere : (list : List X) (epoch : ℤ) (place : ℕ) → IsPartitionPoint (λ x. int_cmp (epoch_of x) epoch ≡ Less) (λ x. int_cmp (epoch_of x) epoch ≡ Greater) list place → find (λ x. int_eq (epoch_of x) epoch) list ≡ None
  nowhere list epoch place p = none_found (λ x. int_eq (epoch_of x) epoch) list (λ k d lt.
      elim (nat_lt k place) as (λ b. nat_lt k place ≡ b → int_eq (epoch_of (get_or list k d)) epoch ≡ false) [
        | true ↦ λ t. ap is_eq (p.0 k d (omega arith) (grind arith))
        | false ↦ λ t. ap is_eq (p.1 k d (grind arith) lt)
      ] refl)

  -- what is read there
  pub stands_read : (list : List X) (epoch : ℤ) (place : ℕ) → StandsAt list epoch_of epoch place → (x : X) → place < length list → x ≡ get_or list place x → find (λ y. int_eq (epoch_of y) epoch) list ≡ Some x
  stands_read list epoch place at x lt is =
      let here : slice_get list place ≡ Some at.here = ap (slice_get list) at.at ∙ ap (λ (xs : List X). slice_get xs (length at.front)) at.is ∙ get_length at.front at.here at.back in
      at.found ∙ sym here ∙ slice_get_read list (length list) place x refl lt is
