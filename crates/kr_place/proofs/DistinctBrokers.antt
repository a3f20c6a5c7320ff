-- A placement takes as many brokers as asked for, none twice.
use Rattle.std.proofs.Common.{◌≡◌, ℕ, ℤ, zero, suc, ◌*◌, ◌<◌, ◌≤◌, true, false, cond, ◌||◌, List, [], ◌∷◌, Some, length, take, refl, sym, ◌∙◌, ap, subst, arith}
use Rattle.std.specs.Prelude.{slice_get, sum_by, get_or, All, min}
use Rattle.std.specs.Cmp.{int_eq_equiv, signed_Decides}
use Rattle.std.specs.List.{IsDistinct, AllByRecursion, Contains, list_any}
use Rattle.std.specs.Ordering.{int_eq}
use Rattle.std.proofs.Math.Nat.{mul_comm}
use Rattle.std.proofs.lemmas.List.{length-take}
use Rattle.std.proofs.lemmas.List.Elements.{All-from_recursion}
use Rattle.std.proofs.lemmas.List.Sums.{sum_by-cons, sum_by-take-le, get_or-le-sum_by}
use Rattle.std.proofs.lemmas.Map.Views.{Contains-from_any}
use Rattle.std.proofs.lemmas.Option.{slice_get_within, get_or_from_slice_get}
use Rattle.kr_defs.specs.Placed.{Rack, placed, visited, racks_of}
use Rattle.kr_place.specs.Spread.{ids_of}
use Rattle.kr_place.proofs.Groups.{racks-sum}
use Rattle.kr_place.proofs.Visits.{rounds-sum}
use Rattle.kr_place.proofs.Walks.{visited-none}

-- ---- how often a number stands in a list

abbrev pub once : ℤ → ℤ → ℕ
once x y = cond (int_eq x y) 1 0

abbrev pub often : ℤ → List ℤ → ℕ
often x xs = sum_by (once x) xs

never : (x : ℤ) (xs : List ℤ) → AllByRecursion (λ y. int_eq x y ≡ false) xs → often x xs ≡ 0
never x [] differ = refl
never x (y ∷ ys) differ =
    let rest = never x ys differ.1 in
    let here : once x y ≡ 0 = ap (λ b. cond b 1 0) differ.0 in
    let all = sum_by-cons (once x) y ys in
    omega (arith, rest, here, all)

one-none : suc zero ≡ zero → true ≡ false
one-none is = absurd (omega arith)

not-once : (x y : ℤ) → once x y ≡ 0 → int_eq x y ≡ false
not-once x y none =
    elim (int_eq x y) as (λ b. cond b 1 0 ≡ zero → b ≡ false) [
      | true ↦ one-none
      | false ↦ λ is. refl
    ] none

differ-all : (x : ℤ) (xs : List ℤ) → often x xs ≡ 0 → AllByRecursion (λ y. int_eq x y ≡ false) xs
differ-all x [] none = tt
differ-all x (y ∷ ys) none =
    let all = sum_by-cons (once x) y ys in
    let here : once x y ≡ 0 = omega (arith, all, none) in
    let rest : often x ys ≡ 0 = omega (arith, all, none) in
    (not-once x y here, differ-all x ys rest)

pub once-self : (x : ℤ) → once x x ≡ 1
once-self x = ap (λ b. cond b 1 0) (int_eq_equiv.refl x)

-- a list is distinct exactly if no number stands in it more than once
pub often-le : (xs : List ℤ) (x : ℤ) → IsDistinct int_eq xs → often x xs ≤ 1
unfolding IsDistinct
often-le [] x distinct = omega arith
often-le (y ∷ ys) x distinct =
    let all = sum_by-cons (once x) y ys in
    elim (int_eq x y) as (λ b. int_eq x y ≡ b → often x (y ∷ ys) ≤ 1) [
      | true ↦ λ is.
          let same : y ≡ x = sym ((signed_Decides x y).0 is) in
          let none : often x ys ≡ 0 = never x ys (subst (λ (z : ℤ). AllByRecursion (λ w. int_eq z w ≡ false) ys) same distinct.0) in
          let here : once x y ≡ 1 = ap (λ b. cond b 1 0) is in
          omega (arith, all, none, here)
      | false ↦ λ is.
          let rest = often-le ys x distinct.1 in
          let here : once x y ≡ 0 = ap (λ b. cond b 1 0) is in
          omega (arith, all, rest, here)
    ] refl

distinct-from : (xs : List ℤ) → ((x : ℤ) → often x xs ≤ 1) → IsDistinct int_eq xs
unfolding IsDistinct
distinct-from [] le = tt
distinct-from (y ∷ ys) le =
    let here = le y in
    let all = sum_by-cons (once y) y ys in
    let self = once-self y in
    let none : often y ys ≡ 0 = omega (arith, here, all, self) in (
      differ-all y ys none,
      distinct-from ys (λ x.
          let at_x = le x in
          let all_x = sum_by-cons (once x) y ys in
          omega (arith, at_x, all_x)),
    )

pub found : (x : ℤ) (xs : List ℤ) → 0 < often x xs → list_any (int_eq x) xs ≡ true
found x [] some = absurd (omega arith)
found x (y ∷ ys) some =
    let all = sum_by-cons (once x) y ys in
    elim (int_eq x y) as (λ b. int_eq x y ≡ b → (b || list_any (int_eq x) ys) ≡ true) [
      | true ↦ λ is. refl
      | false ↦ λ is.
          let here : once x y ≡ 0 = ap (λ b. cond b 1 0) is in
          found x ys (omega (arith, all, here, some))
    ] refl

each : (P : ℤ → Type 0) (xs : List ℤ) → ((x : ℤ) → 0 < often x xs → P x) → AllByRecursion P xs
each P [] holds = tt
each P (y ∷ ys) holds =
    let all = sum_by-cons (once y) y ys in
    let self = once-self y in (
      holds y (omega (arith, all, self)),
      each P ys (λ x some.
          let all_x = sum_by-cons (once x) y ys in
          holds x (omega (arith, all_x, some))),
    )

-- ---- all visits

abbrev pub one : ℤ → ℕ
one x = 1

pub sum-one : (xs : List ℤ) → sum_by one xs ≡ length xs
sum-one [] = refl
sum-one (x ∷ xs) =
    let rest = sum-one xs in
    let all = sum_by-cons one x xs in
    omega (arith, rest, all)

pub length-ids : (brokers : List (ℤ × Rack)) → length (ids_of brokers) ≡ length brokers
length-ids [] = refl
length-ids (b ∷ brokers) = ap suc (length-ids brokers)

-- no rack has more brokers than there are
pub small : (brokers : List (ℤ × Rack)) → IsDistinct int_eq (ids_of brokers) → (i : ℕ) (rack : List ℤ) → slice_get (racks_of brokers) i ≡ Some rack → length rack ≤ length brokers
small brokers distinct i rack is =
    let racks : List (List ℤ) = racks_of brokers in
    let here : get_or racks i [] ≡ rack = get_or_from_slice_get racks i rack [] is in
    let le : sum_by one (get_or racks i []) ≤ sum_by (sum_by one) racks = get_or-le-sum_by (sum_by one) racks i [] (slice_get_within racks i rack is) in
    let all : sum_by (sum_by one) racks ≡ sum_by one (ids_of brokers) = racks-sum one brokers distinct in
    let ids = sum-one (ids_of brokers) in
    let count = length-ids brokers in
    let size : sum_by one (get_or racks i []) ≡ length rack = ap (sum_by one) here ∙ sum-one rack in
    omega (arith, le, all, ids, count, size)

whole : (f : ℤ → ℕ) (racks : List (List ℤ)) (start n : ℕ) → ((i : ℕ) (rack : List ℤ) → slice_get racks i ≡ Some rack → length rack ≤ n) → sum_by f (visited racks start (length racks * n)) ≡ sum_by (sum_by f) racks
whole f [] start n le =
    let none : 0 * n ≡ 0 = omega arith in
    ap (λ k. sum_by f (visited [] start k)) none ∙ ap (sum_by f) (visited-none [] start)
whole f (rack ∷ racks) start n le =
    ap (λ k. sum_by f (visited (rack ∷ racks) start k)) (mul_comm (length (rack ∷ racks)) n) ∙ rounds-sum f (rack ∷ racks) start n (omega arith) le

abbrev pub all_visited : List (ℤ × Rack) → ℕ → List ℤ
all_visited brokers start = visited (racks_of brokers) start (length (racks_of brokers) * length brokers)

pub all-sum : (f : ℤ → ℕ) (brokers : List (ℤ × Rack)) (start : ℕ) → IsDistinct int_eq (ids_of brokers) → sum_by f (all_visited brokers start) ≡ sum_by f (ids_of brokers)
all-sum f brokers start distinct = whole f (racks_of brokers) start (length brokers) (small brokers distinct) ∙ racks-sum f brokers distinct

pub all-length : (brokers : List (ℤ × Rack)) (start : ℕ) → IsDistinct int_eq (ids_of brokers) → length (all_visited brokers start) ≡ length brokers
all-length brokers start distinct = sym (sum-one (all_visited brokers start)) ∙ all-sum one brokers start distinct ∙ sum-one (ids_of brokers) ∙ length-ids brokers

-- ---- the first of them

pub placed-le : (brokers : List (ℤ × Rack)) (start factor : ℕ) (x : ℤ) → IsDistinct int_eq (ids_of brokers) → often x (placed brokers start factor) ≤ often x (ids_of brokers)
unfolding placed
placed-le brokers start factor x distinct =
    let part : often x (take factor (all_visited brokers start)) ≤ often x (all_visited brokers start) = sum_by-take-le (once x) (all_visited brokers start) factor in
    let all = all-sum (once x) brokers start distinct in
    omega (arith, part, all)

pub placed-distinct : (brokers : List (ℤ × Rack)) (start factor : ℕ) → IsDistinct int_eq (ids_of brokers) → IsDistinct int_eq (placed brokers start factor)
placed-distinct brokers start factor distinct = distinct-from (placed brokers start factor) (λ x.
    let part = placed-le brokers start factor x distinct in
    let le = often-le (ids_of brokers) x distinct in
    omega (arith, part, le))

pub placed-count : (brokers : List (ℤ × Rack)) (start factor : ℕ) → IsDistinct int_eq (ids_of brokers) → length (placed brokers start factor) ≡ min factor (length brokers)
unfolding placed
placed-count brokers start factor distinct = length-take factor (all_visited brokers start) ∙ ap (min factor) (all-length brokers start distinct)

pub placed-members : (brokers : List (ℤ × Rack)) (start factor : ℕ) → IsDistinct int_eq (ids_of brokers) → All (λ (id : ℤ). Contains (ids_of brokers) id) (placed brokers start factor)
placed-members brokers start factor distinct =
    All-from_recursion (λ (id : ℤ). Contains (ids_of brokers) id) (placed brokers start factor) (each (λ (id : ℤ). Contains (ids_of brokers) id) (placed brokers start factor) (λ x some.
    let part = placed-le brokers start factor x distinct in
    let is : 0 < often x (ids_of brokers) = omega (arith, part, some) in
    Contains-from_any (λ a b. (signed_Decides a b).0) x (ids_of brokers) (found x (ids_of brokers) is)))
