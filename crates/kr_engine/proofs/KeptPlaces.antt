-- Rising places, and what is kept under them.
use Rattle.std.proofs.Common.{◌≡◌, ◌∙◌, sym, subst, ℕ, suc, ℤ, pos, Bool, true, false, cond, not, ◌≤◌, ◌<◌, ◌-◌, List, [], ◌∷◌, ◌++◌, map, filter, length, refl, ap, arith}
use Rattle.std.proofs.lemmas.Bool.Decides.{nat_tests}
use Rattle.std.proofs.lemmas.List.Elements.{filter-append}
use Rattle.std.proofs.lemmas.List.{append_assoc}
use Rattle.std.specs.Prelude.{◌||◌, Option, Some, find, int_lt, nat_lt, slice_get, unsigned_abs}
use Rattle.std.specs.List.{AllByRecursion, list_any}
use Rattle.std.specs.Ordering.{int_eq}
use Rattle.kr_defs.proofs.IdLists.{id_itself, same_id}
use Rattle.kr_defs.specs.Log.{Log}
use Rattle.kr_model.specs.Engine.{Rise}
use Rattle.kr_model.proofs.KeptImages.{not_higher}
use Rattle.kr_model.proofs.Places.{all_above, is_below, isnt_below, moves}

-- ---- a place among others

abbrev pub is_one : ℕ → List ℕ → Bool
is_one n ns = list_any (λ m. int_eq (pos n) (pos m)) ns

same_place : (m n : ℕ) → int_eq (pos m) (pos n) ≡ true → m ≡ n
same_place m n is = ap unsigned_abs (same_id (pos m) (pos n) is)

-- the other way round
place_same : (c n : ℕ) → int_eq (pos c) (pos n) ≡ true → n ≡ c
place_same c n is = sym (same_place c n is)

other_way : (m n : ℕ) → int_eq (pos m) (pos n) ≡ int_eq (pos n) (pos m)
other_way m n = grind (arith, nat_tests)

one_of_either : (a b : Bool) → a ≡ false → (a || b) ≡ true → b ≡ true
one_of_either true b is both = absurd cc
one_of_either false b is both = both

pub one_first : (n : ℕ) (ns : List ℕ) → is_one n (n ∷ ns) ≡ true
one_first n ns = ap (λ b. b || is_one n ns) (id_itself (pos n))

or_true : (a b : Bool) → b ≡ true → (a || b) ≡ true
or_true true b is = refl
or_true false b is = is

pub one_later : (n m : ℕ) (ns : List ℕ) → is_one n ns ≡ true → is_one n (m ∷ ns) ≡ true
one_later n m ns is = or_true (int_eq (pos n) (pos m)) (is_one n ns) is

pub one_behind : (n : ℕ) (xs ys : List ℕ) → is_one n ys ≡ true → is_one n (xs ++ ys) ≡ true
one_behind n [] ys is = is
one_behind n (x ∷ xs) ys is = one_later n x (xs ++ ys) (one_behind n xs ys is)

either_true : (a b c : Bool) → ((b ≡ true) → c ≡ true) → (a || b) ≡ true → (a || c) ≡ true
either_true true b c step is = refl
either_true false b c step is = step is

pub one_before : (n : ℕ) (xs ys : List ℕ) → is_one n xs ≡ true → is_one n (xs ++ ys) ≡ true
one_before n [] ys is = absurd cc
one_before n (x ∷ xs) ys is = either_true (int_eq (pos n) (pos x)) (is_one n xs) (is_one n (xs ++ ys)) (one_before n xs ys) is

-- the last of rising places is one of them
pub one_last : (from : ℕ) (ns : List ℕ) (to : ℕ) → Rise from ns to → is_one to (from ∷ ns) ≡ true
one_last from [] to rise = subst (λ n. is_one n (from ∷ []) ≡ true) rise (one_first from [])
one_last from (n ∷ ns) to rise = one_later to from (n ∷ ns) (one_last n ns to rise.1)

-- none is below the first
pub not_lower : (c from : ℕ) (ns : List ℕ) (to : ℕ) → Rise from ns to → is_one c (from ∷ ns) ≡ true → from ≤ c
not_lower c from [] to rise is =
    elim (int_eq (pos c) (pos from)) as (λ b. int_eq (pos c) (pos from) ≡ b → (b || false) ≡ true → from ≤ c) [
      | true ↦ λ same _. let at = place_same c from same in omega (arith, at)
      | false ↦ λ other is. absurd cc
    ] refl is
not_lower c from (n ∷ ns) to rise is =
    elim (int_eq (pos c) (pos from)) as (λ b. int_eq (pos c) (pos from) ≡ b → (b || is_one c (n ∷ ns)) ≡ true → from ≤ c) [
      | true ↦ λ same _. let at = place_same c from same in omega (arith, at)
      | false ↦ λ other is. let up = rise.0 in let low = not_lower c n ns to rise.1 is in omega (arith, up, low)
    ] refl is

-- ---- what is kept under a place

filter_map : {X Y : Type 0} (p : Y → Bool) (g : X → Y) (xs : List X) → filter p (map g xs) ≡ map g (filter (λ x. p (g x)) xs)
filter_map p g [] = refl
filter_map {X} {Y} p g (x ∷ xs) =
    elim (p (g x)) as (λ b. cond b (g x ∷ filter p (map g xs)) (filter p (map g xs)) ≡ map g (cond b (x ∷ filter (λ x. p (g x)) xs) (filter (λ x. p (g x)) xs))) [
      | true ↦ ap (λ rest. g x ∷ rest) (filter_map p g xs)
      | false ↦ filter_map p g xs
    ]

last_later : {X : Type 0} (x y : X) (xs : List X) → slice_get (x ∷ y ∷ xs) (length (x ∷ y ∷ xs) - 1) ≡ slice_get (y ∷ xs) (length (y ∷ xs) - 1)
last_later {X} x y xs = ap (slice_get (x ∷ y ∷ xs)) (less_one (suc (length xs))) ∙ sym (ap (slice_get (y ∷ xs)) (less_one (length xs)))
  where
    less_one : (n : ℕ) → suc n - 1 ≡ n
    less_one n = omega arith

-- the last of a list that is longer by one
pub last_added : {X : Type 0} (xs : List X) (x : X) → slice_get (xs ++ x ∷ []) (length (xs ++ x ∷ []) - 1) ≡ Some x
last_added [] x = refl
last_added {X} (y ∷ []) x = last_later y x []
last_added {X} (y ∷ z ∷ xs) x = last_later y z (xs ++ x ∷ []) ∙ last_added (z ∷ xs) x

-- ---- places from one on, up to one, and above one

abbrev pub above : ℕ → List ℕ → List ℕ
above c ns = filter (λ n. int_lt (pos c) (pos n)) ns

abbrev pub up_to : ℕ → List ℕ → List ℕ
up_to c ns = filter (λ n. not (int_lt (pos c) (pos n))) ns

abbrev from_on : ℕ → List ℕ → List ℕ
from_on c ns = filter (λ n. not (int_lt (pos n) (pos c))) ns

all_from : (c from : ℕ) (ns : List ℕ) (to : ℕ) → c ≤ from → Rise from ns to → from_on c ns ≡ ns
all_from c from [] to low rise = refl
all_from c from (n ∷ ns) to low rise =
    let up = rise.0 in
    ap (λ b. cond (not b) (n ∷ from_on c ns) (from_on c ns)) (isnt_below n c (omega (arith, up, low)))
    ∙ ap (λ rest. n ∷ rest) (all_from c n ns to (omega (arith, up, low)) rise.1)

pub none_up_to : (c from : ℕ) (ns : List ℕ) (to : ℕ) → c ≤ from → Rise from ns to → up_to c ns ≡ []
none_up_to c from [] to low rise = refl
none_up_to c from (n ∷ ns) to low rise =
    let up = rise.0 in
    ap (λ b. cond (not b) (n ∷ up_to c ns) (up_to c ns)) (is_below c n (omega (arith, up, low)))
    ∙ none_up_to c n ns to (omega (arith, up, low)) rise.1

module _ (log : Log) where
  every : (c from : ℕ) (ns : List ℕ) (to : ℕ) → c ≤ from → Rise from ns to → above c ns ≡ ns
  every c from ns to low rise = all_above log to c from ns low rise

  from_here : (from : ℕ) (ns : List ℕ) (to : ℕ) → Rise from ns to → from_on from (from ∷ ns) ≡ from ∷ above from ns
  from_here from ns to rise =
      ap (λ b. cond (not b) (from ∷ from_on from ns) (from_on from ns)) (isnt_below from from (omega arith))
      ∙ ap (λ rest. from ∷ rest) (all_from from from ns to (omega arith) rise ∙ sym (every from from ns to (omega arith) rise))

  same_from : (c from : ℕ) (ns : List ℕ) (to : ℕ) → Rise from ns to → int_eq (pos c) (pos from) ≡ true → from_on c (from ∷ ns) ≡ c ∷ above c ns
  same_from c from ns to rise same = subst (λ n. from_on n (from ∷ ns) ≡ n ∷ above n ns) (place_same c from same) (from_here from ns to rise)

  -- one of rising places, and those above it
  from_one : (c from : ℕ) (ns : List ℕ) (to : ℕ) → Rise from ns to → is_one c (from ∷ ns) ≡ true → from_on c (from ∷ ns) ≡ c ∷ above c ns
  from_one c from [] to rise is =
      elim (int_eq (pos c) (pos from)) as (λ b. int_eq (pos c) (pos from) ≡ b → (b || false) ≡ true → from_on c (from ∷ []) ≡ c ∷ above c []) [
        | true ↦ λ same _. same_from c from [] to rise same
        | false ↦ λ other is. absurd cc
      ] refl is
  from_one c from (n ∷ ns) to rise is =
      elim (int_eq (pos c) (pos from)) as (λ b. int_eq (pos c) (pos from) ≡ b → (b || is_one c (n ∷ ns)) ≡ true → from_on c (from ∷ n ∷ ns) ≡ c ∷ above c (n ∷ ns)) [
        | true ↦ λ same _. same_from c from (n ∷ ns) to rise same
        | false ↦ λ other is.
            let up = rise.0 in
            let low = not_lower c n ns to rise.1 is in
            ap (λ b. cond (not b) (from ∷ from_on c (n ∷ ns)) (from_on c (n ∷ ns))) (is_below from c (omega (arith, up, low)))
            ∙ (from_one c n ns to rise.1 is
            ∙ ap (λ rest. c ∷ rest) (sym (ap (λ b. cond b (n ∷ above c ns) (above c ns)) (isnt_below c n low))))
      ] refl is

  pub rise_above : (c from : ℕ) (ns : List ℕ) (to : ℕ) → Rise from ns to → is_one c (from ∷ ns) ≡ true → Rise c (above c ns) to
  rise_above c from ns to rise is = (moves log to from ns (pos c) rise is).rise

none_further : (c from : ℕ) (ns : List ℕ) (to : ℕ) → Rise from ns to → int_eq (pos c) (pos from) ≡ true → Rise from (up_to c ns) c
none_further c from ns to rise same =
    let at : from ≡ c = place_same c from same in
    subst (λ xs. Rise from xs c) (sym (none_up_to c from ns to (omega (arith, at)) rise)) at

pub rise_up_to : (c from : ℕ) (ns : List ℕ) (to : ℕ) → Rise from ns to → is_one c (from ∷ ns) ≡ true → Rise from (up_to c ns) c
rise_up_to c from [] to rise is =
    elim (int_eq (pos c) (pos from)) as (λ b. int_eq (pos c) (pos from) ≡ b → (b || false) ≡ true → Rise from (up_to c []) c) [
      | true ↦ λ same _. none_further c from [] to rise same
      | false ↦ λ other is. absurd cc
    ] refl is
rise_up_to c from (n ∷ ns) to rise is =
    elim (int_eq (pos c) (pos from)) as (λ b. int_eq (pos c) (pos from) ≡ b → (b || is_one c (n ∷ ns)) ≡ true → Rise from (up_to c (n ∷ ns)) c) [
      | true ↦ λ same _. none_further c from (n ∷ ns) to rise same
      | false ↦ λ other is.
          subst (λ b. Rise from (cond (not b) (n ∷ up_to c ns) (up_to c ns)) c) (sym (isnt_below c n (not_lower c n ns to rise.1 is))) (rise.0, rise_up_to c n ns to rise.1 is)
    ] refl is

-- the places from the first on that aren't above one
first_up_to : (c from : ℕ) (ns : List ℕ) → from ≤ c → up_to c (from ∷ ns) ≡ from ∷ up_to c ns
first_up_to c from ns low = ap (λ b. cond (not b) (from ∷ up_to c ns) (up_to c ns)) (isnt_below c from low)

lower : (c n : ℕ) → int_lt (pos c) (pos n) ≡ true → c < n
lower c n is = grind (arith, nat_tests)

-- all are up to it or above it
pub parted : (log : Log) (c from : ℕ) (ns : List ℕ) (to : ℕ) → Rise from ns to → ns ≡ up_to c ns ++ above c ns
parted log c from [] to rise = refl
parted log c from (n ∷ ns) to rise =
    elim (int_lt (pos c) (pos n)) as (λ b. int_lt (pos c) (pos n) ≡ b → n ∷ ns ≡ cond (not b) (n ∷ up_to c ns) (up_to c ns) ++ cond b (n ∷ above c ns) (above c ns)) [
      | true ↦ λ is. let up : c < n = lower c n is in
          sym (ap (λ xs. xs ++ n ∷ above c ns) (none_up_to c n ns to (omega (arith, up)) rise.1) ∙ ap (λ xs. n ∷ xs) (every log c n ns to (omega (arith, up)) rise.1))
      | false ↦ λ is. ap (λ xs. n ∷ xs) (parted log c n ns to rise.1)
    ] refl

above_more : (c e : ℕ) (ns : List ℕ) → c ≤ e → above c (above e ns) ≡ above e ns
above_more c e [] low = refl
above_more c e (n ∷ ns) low =
    elim (int_lt (pos e) (pos n)) as (λ b. int_lt (pos e) (pos n) ≡ b → above c (cond b (n ∷ above e ns) (above e ns)) ≡ cond b (n ∷ above e ns) (above e ns)) [
      | true ↦ λ is. let up : e < n = lower e n is in
          ap (λ b. cond b (n ∷ above c (above e ns)) (above c (above e ns))) (is_below c n (omega (arith, up, low))) ∙ ap (λ rest. n ∷ rest) (above_more c e ns low)
      | false ↦ λ is. above_more c e ns low
    ] refl

-- of covered places and the ends of batches, those above a closed end, where the ends up to another end are covered too
pub covered_more : (log : Log) (c e from : ℕ) (covered ends : List ℕ) (to : ℕ) → c ≤ e → Rise from ends to
    → above c (covered ++ ends) ≡ above c (covered ++ up_to e ends) ++ above e ends
covered_more log c e from covered ends to low rise =
    ap (λ xs. above c (covered ++ xs)) (parted log e from ends to rise)
    ∙ (ap (above c) (sym (append_assoc covered (up_to e ends) (above e ends)))
    ∙ (filter-append (λ n. int_lt (pos c) (pos n)) (covered ++ up_to e ends) (above e ends)
    ∙ ap (λ xs. above c (covered ++ up_to e ends) ++ xs) (above_more c e ends low)))

-- the same by the test of numbers
pub above_tested : (c : ℕ) (ns : List ℕ) → above c ns ≡ filter (λ n. nat_lt c n) ns
above_tested c [] = refl
above_tested c (n ∷ ns) =
    ap (λ b. cond b (n ∷ above c ns) (above c ns)) (lt_tested c n) ∙ ap (λ rest. cond (nat_lt c n) (n ∷ rest) rest) (above_tested c ns)
  where
    lt_tested : (c n : ℕ) → int_lt (pos c) (pos n) ≡ nat_lt c n
    lt_tested c n = grind (arith, nat_tests)

-- ---- a function of places

module _ {X : Type 0} (f : ℕ → X) where
  abbrev pub under : ℕ → ℤ × X
  under n = (pos n, f n)

  pub found_under : (n : ℕ) (ns : List ℕ) → is_one n ns ≡ true → find (λ (k : ℤ × X). int_eq k.0 (pos n)) (map under ns) ≡ Some (under n)
  found_under n [] is = absurd cc
  found_under n (m ∷ ns) is =
      elim (int_eq (pos m) (pos n)) as (λ b. int_eq (pos m) (pos n) ≡ b → cond b (Some (under m)) (find (λ (k : ℤ × X). int_eq k.0 (pos n)) (map under ns)) ≡ Some (under n)) [
        | true ↦ λ same. ap (λ k. Some (under k)) (same_place m n same)
        | false ↦ λ other. found_under n ns (one_of_either (int_eq (pos n) (pos m)) (is_one n ns) (other_way n m ∙ other) is)
      ] refl

  pub last_under : (from : ℕ) (ns : List ℕ) (to : ℕ) → Rise from ns to → slice_get (map under (from ∷ ns)) (length (map under (from ∷ ns)) - 1) ≡ Some (under to)
  last_under from [] to rise = ap (λ n. Some (under n)) rise
  last_under from (n ∷ ns) to rise = last_later (under from) (under n) (map under ns) ∙ last_under n ns to rise.1

  -- those from one of the places on
  pub from_under : (log : Log) (c from : ℕ) (ns : List ℕ) (to : ℕ) → Rise from ns to → is_one c (from ∷ ns) ≡ true
      → filter (λ (k : ℤ × X). not (int_lt k.0 (pos c))) (map under (from ∷ ns)) ≡ map under (c ∷ above c ns)
  from_under log c from ns to rise is =
      filter_map (λ (k : ℤ × X). not (int_lt k.0 (pos c))) under (from ∷ ns) ∙ ap (map under) (from_one log c from ns to rise is)

  -- those up to one of the places
  pub up_to_under : (c from : ℕ) (ns : List ℕ) → from ≤ c → filter (λ (k : ℤ × X). not (int_lt (pos c) k.0)) (map under (from ∷ ns)) ≡ map under (from ∷ up_to c ns)
  up_to_under c from ns low =
      filter_map (λ (k : ℤ × X). not (int_lt (pos c) k.0)) under (from ∷ ns) ∙ ap (map under) (first_up_to c from ns low)

  -- the same under other functions that agree at these places
  pub same_under : (g : ℕ → X) (from : ℕ) (ns : List ℕ) (to : ℕ) → ((n : ℕ) → from ≤ n → n ≤ to → g n ≡ f n) → Rise from ns to → map (λ n. (pos n, g n)) (from ∷ ns) ≡ map under (from ∷ ns)
  same_under g from [] to same rise = ap (λ x. (pos from, x) ∷ []) (same from (omega arith) (omega (arith, rise)))
  same_under g from (n ∷ ns) to same rise =
      let up = rise.0 in
      let low = not_higher n ns to rise.1 in
      ap (λ x. (pos from, x) ∷ map (λ n. (pos n, g n)) (n ∷ ns)) (same from (omega arith) (omega (arith, up, low)))
      ∙ ap (λ rest. under from ∷ rest) (same_under g n ns to (λ m higher. same m (omega (arith, up, higher))) rise.1)
