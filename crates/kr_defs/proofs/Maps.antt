-- Maps stay in order, keep what is true of their entries, and grow by one at most.
use Rattle.std.proofs.Common.{◌≡◌, ℕ, suc, ◌+◌, ◌≤◌, Bool, true, false, cond, List, [], ◌∷◌, length, refl, sym, ap, subst, ◌∙◌, ◌⊎◌, inl, inr, arith}
use Rattle.std.specs.Prelude.{filter, Some, None, All, sum_by}
use Rattle.std.specs.declared.cmp.Ordering.{Ordering}
use Rattle.std.specs.declared.cmp.Ordering.TheVariants.{Less, Equal, Greater}
use Rattle.std.specs.Ordering.{is_eq, match_ordering, ordering_reverse, ordering_then}
use Rattle.std.specs.Cmp.{IsTotalOrder, then_flip}
use Rattle.std.specs.List.{AllByRecursion}
use Rattle.std.specs.List.Sorted.{IsStrictlySortedBy}
use Rattle.std.specs.Map.{keys_of, remove_entry}
use Rattle.std.specs.BTreeMap.{insert_entry}
use Rattle.std.proofs.lemmas.List.Elements.{All-from_recursion, recursion_from_All}
use Rattle.std.proofs.lemmas.List.Sums.{sum_by-cons}
use Rattle.kr_defs.specs.Map.{IsMap, get, insert, remove}
use Rattle.kr_defs.proofs.Tests.{some_is}

-- ---- order

module _ {K V : Type 0} where
  all_keys-remove : (P : K → Type 0) (test : K → Bool) (es : List (K × V)) → AllByRecursion P (keys_of es) → AllByRecursion P (keys_of (remove_entry test es))
  all_keys-remove P test [] a = tt
  all_keys-remove P test (e ∷ es) a =
      elim (test e.0) as (λ b. AllByRecursion P (keys_of (cond b es (e ∷ remove_entry test es)))) [
        | true ↦ a.1
        | false ↦ (a.0, all_keys-remove P test es a.1)
      ]

  pub all_keys-filter : (P : K → Type 0) (test : K × V → Bool) (es : List (K × V)) → AllByRecursion P (keys_of es) → AllByRecursion P (keys_of (filter test es))
  all_keys-filter P test [] a = tt
  all_keys-filter P test (e ∷ es) a =
      elim (test e) as (λ b. AllByRecursion P (keys_of (cond b (e ∷ filter test es) (filter test es)))) [
        | true ↦ (a.0, all_keys-filter P test es a.1)
        | false ↦ all_keys-filter P test es a.1
      ]

  all_keys-insert : (R : K → K → Ordering) (P : K → Type 0) (es : List (K × V)) (k : K) (v : V) → AllByRecursion P (keys_of es) → P k → AllByRecursion P (keys_of (insert_entry R es k v))
  all_keys-insert R P [] k v a h = (h, tt)
  all_keys-insert R P (e ∷ es) k v a h =
      elim (R k e.0) as (λ r. AllByRecursion P (keys_of (match_ordering r ((k, v) ∷ e ∷ es) ((e.0, v) ∷ es) (e ∷ insert_entry R es k v)))) [
        | Less ↦ (h, a)
        | Equal ↦ a
        | Greater ↦ (a.0, all_keys-insert R P es k v a.1 h)
      ]

-- below one that is below all
pub below_all : {K : Type 0} {R : K → K → Ordering} → IsTotalOrder R → (x y : K) (ks : List K) → R x y ≡ Less → AllByRecursion (λ z. R y z ≡ Less) ks → AllByRecursion (λ z. R x z ≡ Less) ks
below_all o x y [] lt a = tt
below_all o x y (k ∷ ks) lt a = (o.trans x y k lt a.0, below_all o x y ks lt a.1)

pub IsMap-filter : {K V : Type 0} (R : K → K → Ordering) (test : K × V → Bool) (es : List (K × V)) → IsMap R es → IsMap R (filter test es)
unfolding IsStrictlySortedBy
IsMap-filter R test [] s = tt
IsMap-filter R test (e ∷ es) s =
    elim (test e) as (λ b. IsMap R (cond b (e ∷ filter test es) (filter test es))) [
      | true ↦ (all_keys-filter (λ z. R e.0 z ≡ Less) test es s.0, IsMap-filter R test es s.1)
      | false ↦ IsMap-filter R test es s.1
    ]

module _ {K V : Type 0} {R : K → K → Ordering} (o : IsTotalOrder R) where
  pub IsMap-insert : (es : List (K × V)) (k : K) (v : V) → IsMap R es → IsMap R (insert R es k v)
  unfolding IsStrictlySortedBy
  IsMap-insert [] k v s = (tt, tt)
  IsMap-insert (e ∷ es) k v s =
      elim (R k e.0) as (λ r. R k e.0 ≡ r → IsMap R (match_ordering r ((k, v) ∷ e ∷ es) ((e.0, v) ∷ es) (e ∷ insert_entry R es k v))) [
        | Less ↦ λ is. ((is, below_all o k e.0 (keys_of es) is s.0), s)
        | Equal ↦ λ is. s
        | Greater ↦ λ is. (all_keys-insert R (λ z. R e.0 z ≡ Less) es k v s.0 (o.antisymm e.0 k ∙ ap ordering_reverse is), IsMap-insert es k v s.1)
      ] refl

  pub IsMap-remove : (es : List (K × V)) (k : K) → IsMap R es → IsMap R (remove R es k)
  unfolding IsStrictlySortedBy
  IsMap-remove [] k s = tt
  IsMap-remove (e ∷ es) k s =
      elim (is_eq (R k e.0)) as (λ b. IsMap R (cond b es (e ∷ remove R es k))) [
        | true ↦ s.1
        | false ↦ (all_keys-remove (λ z. R e.0 z ≡ Less) _ es s.0, IsMap-remove es k s.1)
      ]

  -- a key below all keys has no value
  pub none_below : (es : List (K × V)) (k : K) → AllByRecursion (λ z. R k z ≡ Less) (keys_of es) → get R es k ≡ None
  none_below [] k a = refl
  none_below (e ∷ es) k a = ap (λ r. cond (is_eq r) (Some e.1) (get R es k)) a.0 ∙ none_below es k a.1

  -- ---- entries, at a key that has a value already

  set_all : (P : K × V → Type 0) (es : List (K × V)) (k : K) (old v : V) → IsMap R es → get R es k ≡ Some old → ((j : K) → P (j, old) → P (j, v)) → AllByRecursion P es → AllByRecursion P (insert R es k v)
  unfolding IsStrictlySortedBy
  set_all P [] k old v s found step a = absurd cc
  set_all P (e ∷ es) k old v s found step a =
      elim (R k e.0) as (λ r. R k e.0 ≡ r → cond (is_eq r) (Some e.1) (get R es k) ≡ Some old → AllByRecursion P (match_ordering r ((k, v) ∷ e ∷ es) ((e.0, v) ∷ es) (e ∷ insert_entry R es k v))) [
        | Less ↦ λ is found. let none = none_below es k (below_all o k e.0 (keys_of es) is s.0) in absurd cc
        | Equal ↦ λ is found. (step e.0 (subst (λ (u : V). P (e.0, u)) (some_is e.1 old found) a.0), a.1)
        | Greater ↦ λ is found. (a.0, set_all P es k old v s.1 found step a.1)
      ] refl found

  pub All-set : (P : K × V → Type 0) (es : List (K × V)) (k : K) (old v : V) → IsMap R es → get R es k ≡ Some old → ((j : K) → P (j, old) → P (j, v)) → All P es → All P (insert R es k v)
  All-set P es k old v s found step a = All-from_recursion P (insert R es k v) (set_all P es k old v s found step (recursion_from_All P es a))

  pub length-set : (es : List (K × V)) (k : K) (old v : V) → IsMap R es → get R es k ≡ Some old → length (insert R es k v) ≡ length es
  unfolding IsStrictlySortedBy
  length-set [] k old v s found = absurd cc
  length-set (e ∷ es) k old v s found =
      elim (R k e.0) as (λ r. R k e.0 ≡ r → cond (is_eq r) (Some e.1) (get R es k) ≡ Some old → length (match_ordering r ((k, v) ∷ e ∷ es) ((e.0, v) ∷ es) (e ∷ insert_entry R es k v)) ≡ suc (length es)) [
        | Less ↦ λ is found. let none = none_below es k (below_all o k e.0 (keys_of es) is s.0) in absurd cc
        | Equal ↦ λ is found. refl
        | Greater ↦ λ is found. ap suc (length-set es k old v s.1 found)
      ] refl found

-- ---- entries

module _ {K V : Type 0} (R : K → K → Ordering) where
  insert_all : (P : K × V → Type 0) (es : List (K × V)) (k : K) (v : V) → ((j : K) (u : V) → P (j, u) → P (j, v)) → P (k, v) → AllByRecursion P es → AllByRecursion P (insert R es k v)
  insert_all P [] k v step h a = (h, tt)
  insert_all P (e ∷ es) k v step h a =
      elim (R k e.0) as (λ r. AllByRecursion P (match_ordering r ((k, v) ∷ e ∷ es) ((e.0, v) ∷ es) (e ∷ insert_entry R es k v))) [
        | Less ↦ (h, a)
        | Equal ↦ (step e.0 e.1 a.0, a.1)
        | Greater ↦ (a.0, insert_all P es k v step h a.1)
      ]

  -- what is true of each entry, of the new one, and of an entry that takes the new value
  pub All-insert : (P : K × V → Type 0) (es : List (K × V)) (k : K) (v : V) → ((j : K) (u : V) → P (j, u) → P (j, v)) → P (k, v) → All P es → All P (insert R es k v)
  All-insert P es k v step h a = All-from_recursion P (insert R es k v) (insert_all P es k v step h (recursion_from_All P es a))

  remove_all : (P : K × V → Type 0) (es : List (K × V)) (k : K) → AllByRecursion P es → AllByRecursion P (remove R es k)
  remove_all P [] k a = tt
  remove_all P (e ∷ es) k a =
      elim (is_eq (R k e.0)) as (λ b. AllByRecursion P (cond b es (e ∷ remove R es k))) [
        | true ↦ a.1
        | false ↦ (a.0, remove_all P es k a.1)
      ]

  pub All-remove : (P : K × V → Type 0) (es : List (K × V)) (k : K) → All P es → All P (remove R es k)
  All-remove P es k a = All-from_recursion P (remove R es k) (remove_all P es k (recursion_from_All P es a))

  pub length-insert : (es : List (K × V)) (k : K) (v : V) → length (insert R es k v) ≤ length es + 1
  length-insert [] k v = omega arith
  length-insert (e ∷ es) k v =
      elim (R k e.0) as (λ r. length (match_ordering r ((k, v) ∷ e ∷ es) ((e.0, v) ∷ es) (e ∷ insert_entry R es k v)) ≤ length (e ∷ es) + 1) [
        | Less ↦ omega arith
        | Equal ↦ omega arith
        | Greater ↦ let more = length-insert es k v in omega (arith, more)
      ]

  pub length-remove : (es : List (K × V)) (k : K) → length (remove R es k) ≤ length es
  length-remove [] k = omega arith
  length-remove (e ∷ es) k =
      elim (is_eq (R k e.0)) as (λ b. length (cond b es (e ∷ remove R es k)) ≤ length (e ∷ es)) [
        | true ↦ omega arith
        | false ↦ let less = length-remove es k in omega (arith, less)
      ]

pub length-filter_le : {X : Type 0} (test : X → Bool) (xs : List X) → length (filter test xs) ≤ length xs
length-filter_le test [] = omega arith
length-filter_le test (x ∷ xs) =
    elim (test x) as (λ b. length (cond b (x ∷ filter test xs) (filter test xs)) ≤ length (x ∷ xs)) [
      | true ↦ let less = length-filter_le test xs in omega (arith, less)
      | false ↦ let less = length-filter_le test xs in omega (arith, less)
    ]

-- ---- orders by one part and then another

then_less : (r s : Ordering) → ordering_then r s ≡ Less → (r ≡ Less) ⊎ ((r ≡ Equal) × (s ≡ Less))
then_less Less s h = inl refl
then_less Equal s h = inr (refl, h)
then_less Greater s h = absurd cc

pub then_equal : (r s : Ordering) → ordering_then r s ≡ Equal → (r ≡ Equal) × (s ≡ Equal)
then_equal Less s h = absurd cc
then_equal Equal s h = (refl, h)
then_equal Greater s h = absurd cc

less_equal : {K : Type 0} {R : K → K → Ordering} → IsTotalOrder R → (x y z : K) → R x y ≡ Less → R y z ≡ Equal → R x z ≡ Less
less_equal o x y z lt e = o.antisymm x z ∙ ap ordering_reverse (sym (o.congr y z x e) ∙ (o.antisymm y x ∙ ap ordering_reverse lt))

module _ {X K L : Type 0} {R : K → K → Ordering} {S : L → L → Ordering} (o : IsTotalOrder R) (o' : IsTotalOrder S) (f : X → K) (g : X → L) where
  abbrev by : X → X → Ordering
  by x y = ordering_then (R (f x) (f y)) (S (g x) (g y))

  trans_by : (x y z : X) → (R (f x) (f y) ≡ Less) ⊎ ((R (f x) (f y) ≡ Equal) × (S (g x) (g y) ≡ Less)) → (R (f y) (f z) ≡ Less) ⊎ ((R (f y) (f z) ≡ Equal) × (S (g y) (g z) ≡ Less)) → by x z ≡ Less
  trans_by x y z (inl p) (inl q) = ap (λ r. ordering_then r (S (g x) (g z))) (o.trans (f x) (f y) (f z) p q)
  trans_by x y z (inl p) (inr q) = ap (λ r. ordering_then r (S (g x) (g z))) (less_equal o (f x) (f y) (f z) p q.0)
  trans_by x y z (inr p) (inl q) = ap (λ r. ordering_then r (S (g x) (g z))) (o.congr (f x) (f y) (f z) p.0 ∙ q)
  trans_by x y z (inr p) (inr q) = ap (λ r. ordering_then r (S (g x) (g z))) (o.congr (f x) (f y) (f z) p.0 ∙ q.0) ∙ o'.trans (g x) (g y) (g z) p.1 q.1

  congr_by : (x y z : X) → by x y ≡ Equal → by x z ≡ by y z
  congr_by x y z e =
      let both = then_equal (R (f x) (f y)) (S (g x) (g y)) e in
      ap (λ r. ordering_then r (S (g x) (g z))) (o.congr (f x) (f y) (f z) both.0) ∙ ap (λ s. ordering_then (R (f y) (f z)) s) (o'.congr (g x) (g y) (g z) both.1)

  pub by_total : IsTotalOrder by
  by_total = record {
    antisymm = λ x y. ap (λ r. ordering_then r (S (g x) (g y))) (o.antisymm (f x) (f y)) ∙ (ap (λ s. ordering_then (ordering_reverse (R (f y) (f x))) s) (o'.antisymm (g x) (g y)) ∙ then_flip (R (f y) (f x)) (S (g y) (g x)));
    trans = λ x y z lt lt'. trans_by x y z (then_less (R (f x) (f y)) (S (g x) (g y)) lt) (then_less (R (f y) (f z)) (S (g y) (g z)) lt');
    congr = congr_by;
  }

-- ---- sums

module _ {X : Type 0} (f : X → ℕ) where
  pub sum-filter_le : (test : X → Bool) (xs : List X) → sum_by f (filter test xs) ≤ sum_by f xs
  sum-filter_le test [] = omega arith
  sum-filter_le test (x ∷ xs) =
      let less = sum-filter_le test xs in
      let all = sum_by-cons f x xs in
      elim (test x) as (λ b. sum_by f (cond b (x ∷ filter test xs) (filter test xs)) ≤ sum_by f (x ∷ xs)) [
        | true ↦ let kept = sum_by-cons f x (filter test xs) in omega (arith, less, all, kept)
        | false ↦ omega (arith, less, all)
      ]

pub sum-remove_le : {K V : Type 0} (f : K × V → ℕ) (R : K → K → Ordering) (es : List (K × V)) (k : K) → sum_by f (remove R es k) ≤ sum_by f es
sum-remove_le f R [] k = omega arith
sum-remove_le f R (e ∷ es) k =
    let less = sum-remove_le f R es k in
    let all = sum_by-cons f e es in
    elim (is_eq (R k e.0)) as (λ b. sum_by f (cond b es (e ∷ remove R es k)) ≤ sum_by f (e ∷ es)) [
      | true ↦ omega (arith, all)
      | false ↦ let kept = sum_by-cons f e (remove R es k) in omega (arith, less, all, kept)
    ]
