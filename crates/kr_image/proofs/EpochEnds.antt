-- Lists of which the epochs rise, from their ends on.
use Rattle.std.proofs.Common.{◌≡◌, ◌<◌, ℕ, suc, ℤ, Bool, true, false, cond, not, List, [], ◌∷◌, ◌++◌, ◌+◌, length, take, drop, get_or, refl, sym, ap, subst, ◌∙◌, map, filter, arith, length-append}
use Rattle.std.specs.Prelude.{Option, Some, None, int_lt, slice_get, ◌-◌}
use Rattle.std.specs.Option.{option_map_or}
use Rattle.std.specs.declared.cmp.Ordering.TheVariants.{Less, Equal, Greater}
use Rattle.std.specs.Ordering.{int_cmp}
use Rattle.std.specs.List.{AllByRecursion}
use Rattle.std.specs.List.Sorted.{IsStrictlySortedBy}
use Rattle.std.proofs.Math.Seq.{take-append_seam}
use Rattle.std.proofs.lemmas.Int.{ints}
use Rattle.std.proofs.lemmas.Option.{slice_get_read}

-- ---- the last of a list

abbrev pub last : {X : Type 0} → List X → Option X
last xs = slice_get xs (length xs - 1)

less_one : (n : ℕ) → suc n - 1 ≡ n
less_one n = omega arith

pub last_later : {X : Type 0} (x y : X) (xs : List X) → last (x ∷ y ∷ xs) ≡ last (y ∷ xs)
last_later {X} x y xs = ap (slice_get (x ∷ y ∷ xs)) (less_one (suc (length xs))) ∙ sym (ap (slice_get (y ∷ xs)) (less_one (length xs)))

-- what is read at the end
pub last_read : {X : Type 0} (xs : List X) (count : ℕ) (x : X) → length xs ≡ count → 0 < count → x ≡ get_or xs (count - 1) x → last xs ≡ Some x
last_read xs count x len some is = ap (λ n. slice_get xs (n - 1)) len ∙ slice_get_read xs count (count - 1) x (sym len) (omega arith) is

pub record Split {X : Type 0} (xs : List X) (x : X) : Type 0 where
  pub front : List X
  pub is : xs ≡ front ++ x ∷ []

pub split : {X : Type 0} (xs : List X) (x : X) → last xs ≡ Some x → Split xs x
split [] x h = absurd cc
split {X} (y ∷ []) x h = let same : Some y ≡ Some x = h in record { front = []; is = let e : y ≡ x = cc in ap (λ z. z ∷ []) e }
split {X} (y ∷ z ∷ xs) x h =
    let rest = split (z ∷ xs) x (sym (last_later y z xs) ∙ h) in
    record { front = y ∷ rest.front; is = ap (λ (zs : List X). y ∷ zs) rest.is }

pub filter_all : {X : Type 0} (q : X → Bool) (xs : List X) → AllByRecursion (λ x. q x ≡ true) xs → filter q xs ≡ xs
filter_all q [] a = refl
filter_all {X} q (x ∷ xs) a = ap (λ b. cond b (x ∷ filter q xs) (filter q xs)) a.0 ∙ ap (λ (ys : List X). x ∷ ys) (filter_all q xs a.1)

-- ---- epochs that rise

pub less_lt : (x y : ℤ) → int_cmp x y ≡ Less → int_lt x y ≡ true
less_lt x y =
    elim (int_lt x y) as (λ b. cond b Less (cond (int_lt y x) Greater Equal) ≡ Less → b ≡ true) [
      | true ↦ λ h. refl
      | false ↦ λ h. elim (int_lt y x) as (λ b. cond b Greater Equal ≡ Less → false ≡ true) [ true ↦ λ e. absurd cc | false ↦ λ e. absurd cc ] h
    ]

not_below : (x y e : ℤ) → int_lt x y ≡ true → int_lt x e ≡ false → not (int_lt y e) ≡ true
not_below x y e up h = grind (arith, ints)

not_above : (x y e : ℤ) → int_lt x y ≡ true → int_lt e y ≡ false → not (int_lt e x) ≡ true
not_above x y e up h = grind (arith, ints)

module _ {X : Type 0} (epoch_of : X → ℤ) where
  abbrev pub Rises : List X → Type 0
  Rises list = IsStrictlySortedBy int_cmp (map epoch_of list)

  -- ---- the first

  all_from : (x : ℤ) (e : ℤ) (list : List X) → AllByRecursion (λ z. int_cmp x z ≡ Less) (map epoch_of list) → int_lt x e ≡ false → AllByRecursion (λ (y : X). not (int_lt (epoch_of y) e) ≡ true) list
  all_from x e [] a h = tt
  all_from x e (y ∷ list) a h = (not_below x (epoch_of y) e (less_lt x (epoch_of y) a.0) h, all_from x e list a.1 h)

  pub from_first : (e : ℤ) (list : List X) → Rises list → option_map_or (λ (x : X). int_lt (epoch_of x) e) (slice_get list 0) false ≡ false → filter (λ x. not (int_lt (epoch_of x) e)) list ≡ list
  unfolding IsStrictlySortedBy
  from_first e [] s h = refl
  from_first e (x ∷ list) s h = filter_all (λ (y : X). not (int_lt (epoch_of y) e)) (x ∷ list) (ap not h, all_from (epoch_of x) e list s.0 h)

  pub without_first : (e : ℤ) (list : List X) → option_map_or (λ (x : X). int_lt (epoch_of x) e) (slice_get list 0) false ≡ true → filter (λ x. not (int_lt (epoch_of x) e)) (drop 1 list) ≡ filter (λ x. not (int_lt (epoch_of x) e)) list
  without_first e [] h = refl
  without_first e (x ∷ list) h = sym (ap (λ b. cond (not b) (x ∷ filter (λ y. not (int_lt (epoch_of y) e)) list) (filter (λ y. not (int_lt (epoch_of y) e)) list)) h)

  pub rest_rises : (list : List X) → Rises list → Rises (drop 1 list)
  unfolding IsStrictlySortedBy
  rest_rises [] s = s
  rest_rises (x ∷ list) s = s.1

  pub shorter_first : (e : ℤ) (list : List X) → option_map_or (λ (x : X). int_lt (epoch_of x) e) (slice_get list 0) false ≡ true → length (drop 1 list) + 1 ≡ length list
  shorter_first e [] h = absurd cc
  shorter_first e (x ∷ list) h = omega arith

  -- ---- the last

  at_end : (P : ℤ → Type 0) (front : List X) (x : X) → AllByRecursion P (map epoch_of (front ++ x ∷ [])) → P (epoch_of x)
  at_end P [] x a = a.0
  at_end P (y ∷ front) x a = at_end P front x a.1

  all_up_to : (e : ℤ) (front : List X) (x : X) → Rises (front ++ x ∷ []) → int_lt e (epoch_of x) ≡ false → AllByRecursion (λ (y : X). not (int_lt e (epoch_of y)) ≡ true) (front ++ x ∷ [])
  unfolding IsStrictlySortedBy
  all_up_to e [] x s h = (ap not h, tt)
  all_up_to e (y ∷ front) x s h = (not_above (epoch_of y) (epoch_of x) e (less_lt (epoch_of y) (epoch_of x) (at_end (λ z. int_cmp (epoch_of y) z ≡ Less) front x s.0)) h, all_up_to e front x s.1 h)

  filter_end : (test : X → Bool) (front : List X) (x : X) → test x ≡ false → filter test (front ++ x ∷ []) ≡ filter test front
  filter_end test [] x h = ap (λ b. cond b (x ∷ []) []) h
  filter_end test (y ∷ front) x h = ap (λ (rest : List X). cond (test y) (y ∷ rest) rest) (filter_end test front x h)

  keys_front : (low : ℤ) (front back : List X) → AllByRecursion (λ z. int_cmp low z ≡ Less) (map epoch_of (front ++ back)) → AllByRecursion (λ z. int_cmp low z ≡ Less) (map epoch_of front)
  keys_front low [] back a = tt
  keys_front low (y ∷ front) back a = (a.0, keys_front low front back a.1)

  front_rises : (front back : List X) → Rises (front ++ back) → Rises front
  unfolding IsStrictlySortedBy
  front_rises [] back s = tt
  front_rises (y ∷ front) back s = (keys_front (epoch_of y) front back s.0, front_rises front back s.1)

  -- what a test of the last has found
  found_last : (e : ℤ) (list : List X) (o : Option X) → slice_get list (length list - 1) ≡ o → option_map_or (λ (x : X). int_lt e (epoch_of x)) o false ≡ true → (x : X) × (int_lt e (epoch_of x) ≡ true) × Split list x
  found_last e list None is h = absurd cc
  found_last e list (Some x) is h = (x, h, split list x is)

  without_end : (list : List X) (x : X) (s : Split list x) → take (length list - 1) list ≡ s.front
  without_end list x s =
      let len : length list - 1 ≡ length s.front = omega (arith, ap length s.is, length-append s.front (x ∷ [])) in
      ap (λ n. take n list) len ∙ ap (take (length s.front)) s.is ∙ take-append_seam s.front (x ∷ [])

  module _ (e : ℤ) (list : List X) (h : option_map_or (λ (x : X). int_lt e (epoch_of x)) (slice_get list (length list - 1)) false ≡ true) where
    pub without_last : filter (λ x. not (int_lt e (epoch_of x))) (take (length list - 1) list) ≡ filter (λ x. not (int_lt e (epoch_of x))) list
    without_last =
        let found = found_last e list (slice_get list (length list - 1)) refl h in
        ap (filter (λ x. not (int_lt e (epoch_of x)))) (without_end list found.0 found.2) ∙ sym (ap (filter (λ x. not (int_lt e (epoch_of x)))) found.2.is ∙ filter_end (λ x. not (int_lt e (epoch_of x))) found.2.front found.0 (ap not found.1))

    pub left_rises : Rises list → Rises (take (length list - 1) list)
    left_rises s =
        let found = found_last e list (slice_get list (length list - 1)) refl h in
        subst Rises (sym (without_end list found.0 found.2)) (front_rises found.2.front (found.0 ∷ []) (subst Rises found.2.is s))

    pub shorter_last : length (take (length list - 1) list) + 1 ≡ length list
    shorter_last =
        let found = found_last e list (slice_get list (length list - 1)) refl h in
        omega (arith, ap length (without_end list found.0 found.2), ap length found.2.is, length-append found.2.front (found.0 ∷ []))

  none_last : (list : List X) → last list ≡ None → list ≡ []
  none_last [] h = refl
  none_last (x ∷ []) h = absurd cc
  none_last (x ∷ y ∷ list) h = let none : y ∷ list ≡ [] = none_last (y ∷ list) (sym (last_later x y list) ∙ h) in absurd cc

  up_to_found : (e : ℤ) (list : List X) (o : Option X) → slice_get list (length list - 1) ≡ o → Rises list → option_map_or (λ (x : X). int_lt e (epoch_of x)) o false ≡ false → filter (λ x. not (int_lt e (epoch_of x))) list ≡ list
  up_to_found e list None is s h = let none : list ≡ [] = none_last list is in rw none refl
  up_to_found e list (Some x) is s h =
      let parts = split list x is in
      filter_all (λ (y : X). not (int_lt e (epoch_of y))) list (subst (AllByRecursion (λ (y : X). not (int_lt e (epoch_of y)) ≡ true)) (sym parts.is) (all_up_to e parts.front x (subst Rises parts.is s) h))

  pub up_to_last : (e : ℤ) (list : List X) → Rises list → option_map_or (λ (x : X). int_lt e (epoch_of x)) (slice_get list (length list - 1)) false ≡ false → filter (λ x. not (int_lt e (epoch_of x))) list ≡ list
  up_to_last e list s h = up_to_found e list (slice_get list (length list - 1)) refl s h
