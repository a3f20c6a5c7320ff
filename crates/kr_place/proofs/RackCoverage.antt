-- A placement stands in as many racks as it can.
use Rattle.std.proofs.Common.{◌≡◌, ℕ, ℤ, zero, suc, ◌+◌, ◌-◌, ◌*◌, ◌/◌, ◌%◌, ◌<◌, ◌≤◌, Bool, true, false, cond, ◌||◌, List, [], ◌∷◌, Some, length, take, refl, sym, ◌∙◌, ap, arith}
use Rattle.std.specs.Prelude.{pos, slice_get, sum_by, get_or, All, min}
use Rattle.std.specs.Cmp.{int_eq_equiv}
use Rattle.std.specs.List.{IsDistinct, list_any}
use Rattle.std.specs.Option.{option_and_then}
use Rattle.std.specs.Ordering.{int_eq}
use Rattle.std.proofs.Math.Nat.{le_antisymm, le-mul_of_pos_right, le-min, min-le_left, min-le_right, mod-lt}
use Rattle.std.proofs.lemmas.List.{take-take}
use Rattle.std.proofs.lemmas.List.Sums.{sum_by-cons, sum_by-take-le, sum_by-le-sum_by, count_by-le-length}
use Rattle.std.proofs.lemmas.Map.Keys.{any_passes_from_place}
use Rattle.std.proofs.lemmas.Option.{slice_get-get_or}
use Rattle.kr_defs.specs.Placed.{Rack, placed, visit, visited, racks_of}
use Rattle.kr_place.specs.Spread.{ids_of}
use Rattle.kr_place.proofs.DistinctBrokers.{once, often, once-self, often-le, found, one, sum-one, small, placed-count}
use Rattle.kr_place.proofs.Groups.{racks-sum, racks-filled}
use Rattle.kr_place.proofs.Totals.{total, total-same, total-split, total-ones, total-around, weight, total-list}
use Rattle.kr_place.proofs.Visits.{given, given-in, visit-round, visited-sum}
use Rattle.kr_place.proofs.Walks.{enough}

-- whether the list has the number
abbrev pub has : List ℤ → ℤ → Bool
has ids x = list_any (int_eq x) ids

-- 1 where the rack has one of the numbers
abbrev pub touched : List ℤ → List ℤ → ℕ
touched ids rack = cond (list_any (has ids) rack) 1 0

-- ---- not more racks than brokers

often-some : (x : ℤ) (xs : List ℤ) → has xs x ≡ true → 0 < often x xs
often-some x [] h = absurd cc
often-some x (y ∷ ys) h =
    let all = sum_by-cons (once x) y ys in
    elim (int_eq x y) as (λ b. int_eq x y ≡ b → (b || has ys x) ≡ true → 0 < often x (y ∷ ys)) [
      | true ↦ λ is some.
          let here : once x y ≡ 1 = ap (λ b. cond b 1 0) is in
          omega (arith, all, here)
      | false ↦ λ is some.
          let rest = often-some x ys some in
          omega (arith, all, rest)
    ] refl h

touched-le : (ids rack : List ℤ) → touched ids rack ≤ sum_by (λ y. often y ids) rack
touched-le ids [] = omega arith
touched-le ids (y ∷ ys) =
    let all = sum_by-cons (λ y. often y ids) y ys in
    let rest = touched-le ids ys in
    elim (has ids y) as (λ b. has ids y ≡ b → cond (b || list_any (has ids) ys) 1 0 ≤ sum_by (λ y. often y ids) (y ∷ ys)) [
      | true ↦ λ is. let here = often-some y ids is in omega (arith, all, here)
      | false ↦ λ is. omega (arith, all, rest)
    ] refl

sum-none : (xs : List ℤ) → sum_by (λ x. 0) xs ≡ 0
sum-none [] = refl
sum-none (x ∷ xs) =
    let all = sum_by-cons (λ (x : ℤ). 0) x xs in
    let rest = sum-none xs in
    omega (arith, all, rest)

sum-plus : (f g h : ℤ → ℕ) → ((y : ℤ) → f y ≡ g y + h y) → (xs : List ℤ) → sum_by f xs ≡ sum_by g xs + sum_by h xs
sum-plus f g h is [] = refl
sum-plus f g h is (x ∷ xs) =
    let rest = sum-plus f g h is xs in
    let here = is x in
    let in_f = sum_by-cons f x xs in
    let in_g = sum_by-cons g x xs in
    let in_h = sum_by-cons h x xs in
    omega (arith, rest, here, in_f, in_g, in_h)

-- each number of ids stands in a distinct list once at most
crossed : (xs : List ℤ) → IsDistinct int_eq xs → (ids : List ℤ) → sum_by (λ y. often y ids) xs ≤ length ids
crossed xs distinct [] = let none = sum-none xs in omega (arith, none)
crossed xs distinct (x ∷ ids) =
    let rest = crossed xs distinct ids in
    let here = often-le xs x distinct in
    let both : sum_by (λ y. often y (x ∷ ids)) xs ≡ often x xs + sum_by (λ y. often y ids) xs = sum-plus (λ y. often y (x ∷ ids)) (once x) (λ y. often y ids) (λ y.
    let all = sum_by-cons (once y) x ids in
    let flip : once y x ≡ once x y = ap (λ b. cond b 1 0) (int_eq_equiv.symm y x) in
    omega (arith, all, flip)) xs in
    omega (arith, rest, here, both)

touched-few : (brokers : List (ℤ × Rack)) (ids : List ℤ) → IsDistinct int_eq (ids_of brokers) → sum_by (touched ids) (racks_of brokers) ≤ length ids
touched-few brokers ids distinct =
    let le : sum_by (touched ids) (racks_of brokers) ≤ sum_by (sum_by (λ y. often y ids)) (racks_of brokers) = sum_by-le-sum_by (touched ids) (sum_by (λ y. often y ids)) (racks_of brokers) (touched-le ids) in
    let all = racks-sum (λ y. often y ids) brokers distinct in
    let cross = crossed (ids_of brokers) distinct ids in
    omega (arith, le, all, cross)

-- ---- the first visits are of one rack each

module _ (racks : List (List ℤ)) (filled : All (λ (r : List ℤ). 0 < length r) racks) (start : ℕ) where
  -- the first visit of a rack takes one of its brokers
  first-visit : (c : ℕ) → c < length racks → (id : ℤ) × (rack : List ℤ) × (place : ℕ) × (visit racks start c ≡ Some id) × (slice_get racks ((start + c) % length racks) ≡ Some rack) × (slice_get rack place ≡ Some id) × (0 < length rack)
  first-visit c lt =
      let r : ℕ = length racks in
      let q : ℕ = start / r in
      let i : ℕ = (start + c) % r in
      let within : i < r = mod-lt (start + c) (omega arith) in
      let rack : List ℤ = get_or racks i [] in
      let there : slice_get racks i ≡ Some rack = slice_get-get_or racks i [] within in
      let some : 0 < length rack = filled i [] within in
      let place : ℕ = (q + 0) % length rack in
      let inside : place < length rack = mod-lt (q + 0) some in
      let id : ℤ = get_or rack place (pos 0) in
      let here : slice_get rack place ≡ Some id = slice_get-get_or rack place (pos 0) inside in
      let e : c ≡ 0 * r + c = omega arith in
      let taken : visit racks start c ≡ Some id = ap (visit racks start) e ∙ visit-round racks start 0 c lt ∙ ap (option_and_then (given q 0)) there ∙ given-in q 0 rack some ∙ here in
      (id, rack, place, taken, there, here, some)

  visited-length : (c : ℕ) → c ≤ length racks → length (visited racks start c) ≡ c
  visited-length c le =
      let all : length (visited racks start c) ≡ total c (λ k. weight one (visit racks start k)) = sym (sum-one (visited racks start c)) ∙ visited-sum one racks start c in
      let ones : total c (λ k. weight one (visit racks start k)) ≡ total c (λ k. 1) = total-same c (λ k. weight one (visit racks start k)) (λ k. 1) (λ k lt.
      let v = first-visit k (omega arith) in
      ap (weight one) v.3) in
      all ∙ ones ∙ total-ones c

  often-placed : (c n factor : ℕ) (id : ℤ) → c < length racks → c < factor → length racks ≤ n → visit racks start c ≡ Some id → 0 < often id (take factor (visited racks start n))
  often-placed c n factor id lt few le v =
      let all : List ℤ = visited racks start n in
      let first : visited racks start (c + 1) ≡ take (c + 1) all = enough racks start (c + 1) n (c + 1) (visited racks start (c + 1)) refl (omega arith) (visited-length (c + 1) (omega arith)) in
      let part : often id (take (c + 1) (take factor all)) ≤ often id (take factor all) = sum_by-take-le (once id) (take factor all) (c + 1) in
      let same : often id (take (c + 1) (take factor all)) ≡ often id (visited racks start (c + 1)) = ap (often id) (take-take (c + 1) factor all (omega arith) ∙ sym first) in
      let g : ℕ → ℕ = λ k. weight (once id) (visit racks start k) in
      let e : c + 1 ≡ suc c = omega arith in
      let sum : often id (visited racks start (c + 1)) ≡ total c g + g c = visited-sum (once id) racks start (c + 1) ∙ ap (λ a. total a g) e in
      let last : g c ≡ 1 = ap (weight (once id)) v ∙ once-self id in
      omega (arith, part, same, sum, last)

  touched-there : (c n factor : ℕ) → c < length racks → c < factor → length racks ≤ n → weight (touched (take factor (visited racks start n))) (slice_get racks ((start + c) % length racks)) ≡ 1
  touched-there c n factor lt few le =
      let v = first-visit c lt in
      let ids : List ℤ = take factor (visited racks start n) in
      let held : list_any (has ids) v.1 ≡ true = any_passes_from_place (has ids) v.1 v.2 v.0 v.5 (found v.0 ids (often-placed c n factor v.0 lt few le v.3)) in
      ap (weight (touched ids)) v.4 ∙ ap (λ b. cond b 1 0) held

  touched-many : (m n factor : ℕ) → m ≤ length racks → m ≤ factor → length racks ≤ n → m ≤ sum_by (touched (take factor (visited racks start n))) racks
  touched-many zero n factor in_racks few le = omega arith
  touched-many (suc k) n factor in_racks few le =
      let m : ℕ = suc k in
      let r : ℕ = length racks in
      let t : List ℤ → ℕ = touched (take factor (visited racks start n)) in
      let h : ℕ → ℕ = λ c. weight t (slice_get racks ((start + c) % r)) in
      let around : total r h ≡ sum_by t racks = total-around r start (λ i. weight t (slice_get racks i)) (omega arith) ∙ total-list t racks in
      let e : m + (r - m) ≡ r = omega arith in
      let split : total r h ≡ total m h + total (r - m) (λ c. h (m + c)) = ap (λ a. total a h) (sym e) ∙ total-split m (r - m) h in
      let ones : total m h ≡ m = total-same m h (λ c. 1) (λ c lt. touched-there c n factor (omega arith) (omega arith) le) ∙ total-ones m in
      omega (arith, around, split, ones)

-- ---- both

visits-enough : (brokers : List (ℤ × Rack)) → IsDistinct int_eq (ids_of brokers) → 0 < length (racks_of brokers) → 0 < length brokers
visits-enough brokers distinct some =
    let racks : List (List ℤ) = racks_of brokers in
    let rack : List ℤ = get_or racks 0 [] in
    let there : slice_get racks 0 ≡ Some rack = slice_get-get_or racks 0 [] some in
    let filled : 0 < length rack = racks-filled brokers 0 [] some in
    let le = small brokers distinct 0 rack there in
    omega (arith, filled, le)

product-le : (a b : ℕ) → (0 < a → 0 < b) → a ≤ a * b
product-le zero b some = omega arith
product-le (suc a) b some =
    let pos : 0 < b = some (omega arith) in
    le-mul_of_pos_right (suc a) pos

pub placed-touched : (brokers : List (ℤ × Rack)) (start factor : ℕ) → IsDistinct int_eq (ids_of brokers) → sum_by (touched (placed brokers start factor)) (racks_of brokers) ≡ min factor (length (racks_of brokers))
unfolding placed
placed-touched brokers start factor distinct =
    let racks : List (List ℤ) = racks_of brokers in
    let ids : List ℤ = placed brokers start factor in
    let few = touched-few brokers ids distinct in
    let count = placed-count brokers start factor distinct in
    let within : min factor (length brokers) ≤ factor = min-le_left factor (length brokers) in
    let le_factor : sum_by (touched ids) racks ≤ factor = omega (arith, few, count, within) in
    let le_racks : sum_by (touched ids) racks ≤ length racks = count_by-le-length (list_any (has ids)) racks in
    let many : min factor (length racks) ≤ sum_by (touched ids) racks =
    touched-many racks (racks-filled brokers) start (min factor (length racks)) (length racks * length brokers) factor (min-le_right factor (length racks)) (min-le_left factor (length racks)) (product-le (length racks) (length brokers) (visits-enough brokers distinct)) in
    le_antisymm (le-min le_factor le_racks) many
