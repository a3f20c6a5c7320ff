-- What the visits of all rounds give, in sum: each rack's brokers.
use Rattle.std.proofs.Common.{◌≡◌, ℕ, ℤ, zero, suc, ◌+◌, ◌-◌, ◌*◌, ◌/◌, ◌%◌, ◌<◌, ◌≤◌, cond, List, [], ◌∷◌, ◌++◌, Option, None, Some, length, option_to_list, refl, sym, ◌∙◌, ap, arith}
use Rattle.std.specs.Prelude.{nat_lt, slice_get, sum_by}
use Rattle.std.specs.Option.{option_and_then}
use Rattle.std.proofs.Math.Nat.{add-mul-mod_self_right}
use Rattle.std.proofs.lemmas.Bool.{lt-ltb, le-ltb}
use Rattle.std.proofs.lemmas.List.Sums.{sum_by-append}
use Rattle.std.proofs.lemmas.Nat.{div-mul-add}
use Rattle.kr_defs.specs.Placed.{visit, visited}
use Rattle.kr_place.proofs.Totals.{total, total-same, total-none, total-split, total-swap, total-rounds, total-around, weight, total-list}
use Rattle.kr_place.proofs.Walks.{visited-none, visited-more}

-- the broker that a rack gives in round j, where the walk began in round q
abbrev pub given : ℕ → ℕ → List ℤ → Option ℤ
given q j rack = cond (nat_lt j (length rack)) (slice_get rack ((q + j) % length rack)) None

pub given-in : (q j : ℕ) (rack : List ℤ) → j < length rack → given q j rack ≡ slice_get rack ((q + j) % length rack)
given-in q j rack lt = ap (λ b. cond b (slice_get rack ((q + j) % length rack)) None) (lt-ltb j (length rack) lt)

given-out : (q j : ℕ) (rack : List ℤ) → length rack ≤ j → given q j rack ≡ None
given-out q j rack le = ap (λ b. cond b (slice_get rack ((q + j) % length rack)) None) (le-ltb j (length rack) le)

-- the broker that rack number i gives in round j
abbrev pub at_round : List (List ℤ) → ℕ → ℕ → ℕ → Option ℤ
at_round racks q j i = option_and_then (given q j) (slice_get racks i)

visit-is : (racks : List (List ℤ)) (start k : ℕ) → visit racks start k ≡ at_round racks (start / length racks) (k / length racks) ((start + k) % length racks)
unfolding visit
visit-is racks start k = refl

pub visit-round : (racks : List (List ℤ)) (start j c : ℕ) → c < length racks → visit racks start (j * length racks + c) ≡ at_round racks (start / length racks) j ((start + c) % length racks)
visit-round racks start j c lt =
    let r : ℕ = length racks in
    let e : start + (j * r + c) ≡ start + c + j * r = omega arith in
    visit-is racks start (j * r + c) ∙ ap (λ a. at_round racks (start / r) a ((start + (j * r + c)) % r)) (div-mul-add j r c lt)
    ∙ ap (at_round racks (start / r) j) (ap (λ a. a % r) e ∙ add-mul-mod_self_right (start + c) j r)

module _ (f : ℤ → ℕ) where
  sum-option : (o : Option ℤ) → sum_by f (option_to_list o) ≡ weight f o
  sum-option None = refl
  sum-option (Some x) = omega arith

  pub visited-sum : (racks : List (List ℤ)) (start n : ℕ) → sum_by f (visited racks start n) ≡ total n (λ k. weight f (visit racks start k))
  visited-sum racks start zero = ap (sum_by f) (visited-none racks start)
  visited-sum racks start (suc n) =
      let rest = visited-sum racks start n in
      let e : suc n ≡ n + 1 = omega arith in
      let more : visited racks start n ++ option_to_list (visit racks start n) ≡ visited racks start (n + 1) = visited-more racks start n (visited racks start n) _ refl refl in
      let is : sum_by f (visited racks start (suc n)) ≡ sum_by f (visited racks start n ++ option_to_list (visit racks start n)) = ap (sum_by f) (ap (visited racks start) e ∙ sym more) in
      let both = sum_by-append f (visited racks start n) (option_to_list (visit racks start n)) in
      let one = sum-option (visit racks start n) in
      omega (arith, rest, is, both, one)

  rack-sum : (q m : ℕ) (rack : List ℤ) → length rack ≤ m → total m (λ j. weight f (given q j rack)) ≡ sum_by f rack
  rack-sum q m [] le = total-none m (λ j. weight f (given q j [])) (λ k lt. ap (weight f) (given-out q k [] (omega arith)))
  rack-sum q m (x ∷ xs) le =
      let rack : List ℤ = x ∷ xs in
      let n : ℕ = length rack in
      let g : ℕ → ℕ = λ j. weight f (given q j rack) in
      let e : n + (m - n) ≡ m = omega arith in
      let t : total (n + (m - n)) g ≡ total m g = ap (λ a. total a g) e in
      let s : total (n + (m - n)) g ≡ total n g + total (m - n) (λ k. g (n + k)) = total-split n (m - n) g in
      let none : total (m - n) (λ k. g (n + k)) ≡ 0 = total-none (m - n) (λ k. g (n + k)) (λ k lt. ap (weight f) (given-out q (n + k) rack (omega arith))) in
      let all : total n g ≡ total n (λ j. weight f (slice_get rack ((q + j) % n))) = total-same n g (λ j. weight f (slice_get rack ((q + j) % n))) (λ k lt. ap (weight f) (given-in q k rack lt)) in
      let around : total n (λ j. weight f (slice_get rack ((q + j) % n))) ≡ total n (λ i. weight f (slice_get rack i)) = total-around n q (λ i. weight f (slice_get rack i)) (omega arith) in
      let listed : total n (λ i. weight f (slice_get rack i)) ≡ sum_by f rack = total-list f rack in
      sym t ∙ s ∙ omega (arith, none, all, around, listed)

  -- rack number i over m rounds
  round-sum : (racks : List (List ℤ)) (q m i : ℕ) → ((rack : List ℤ) → slice_get racks i ≡ Some rack → length rack ≤ m) → total m (λ j. weight f (at_round racks q j i)) ≡ weight (sum_by f) (slice_get racks i)
  round-sum racks q m i small =
      elim (slice_get racks i) as (λ o. slice_get racks i ≡ o → total m (λ j. weight f (option_and_then (given q j) o)) ≡ weight (sum_by f) o) [
        | None ↦ λ is. total-none m (λ j. 0) (λ k lt. refl)
        | Some rack ↦ λ is. rack-sum q m rack (small rack is)
      ] refl

  -- all racks over m rounds
  pub rounds-sum : (racks : List (List ℤ)) (start m : ℕ) → 0 < length racks → ((i : ℕ) (rack : List ℤ) → slice_get racks i ≡ Some rack → length rack ≤ m)
      → sum_by f (visited racks start (m * length racks)) ≡ sum_by (sum_by f) racks
  rounds-sum racks start m some small =
      let r : ℕ = length racks in
      let q : ℕ = start / r in
      visited-sum racks start (m * r) ∙ total-rounds m r (λ k. weight f (visit racks start k))
      ∙ total-same m (λ j. total r (λ c. weight f (visit racks start (j * r + c)))) (λ j. total r (λ i. weight f (at_round racks q j i))) (λ j lt.
      total-same r (λ c. weight f (visit racks start (j * r + c))) (λ c. weight f (at_round racks q j ((start + c) % r))) (λ c lt'. ap (weight f) (visit-round racks start j c lt'))
      ∙ total-around r start (λ i. weight f (at_round racks q j i)) some)
      ∙ total-swap m r (λ j i. weight f (at_round racks q j i))
      ∙ total-same r (λ i. total m (λ j. weight f (at_round racks q j i))) (λ i. weight (sum_by f) (slice_get racks i)) (λ i lt. round-sum racks q m i (small i))
      ∙ total-list (sum_by f) racks
