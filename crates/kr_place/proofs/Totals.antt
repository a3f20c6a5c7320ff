-- Sums over the numbers below one, and over the elements of a list by index.
use Rattle.std.proofs.Common.{◌≡◌, ℕ, zero, suc, ◌+◌, ◌*◌, ◌%◌, ◌<◌, ◌≤◌, List, [], ◌∷◌, Option, None, Some, length, refl, sym, ◌∙◌, ap, arith}
use Rattle.std.specs.Prelude.{slice_get, sum_by}
use Rattle.std.proofs.Math.Nat.{mod-eq_of_lt, add-mod_right}
use Rattle.std.proofs.lemmas.List.Sums.{sum_by-cons}

-- the sum of g over the numbers below n
abbrev pub total : ℕ → (ℕ → ℕ) → ℕ
total zero g = 0
total (suc n) g = total n g + g n

pub total-same : (n : ℕ) (g h : ℕ → ℕ) → ((k : ℕ) → k < n → g k ≡ h k) → total n g ≡ total n h
total-same zero g h e = refl
total-same (suc n) g h e =
    let here : g n ≡ h n = e n (omega arith) in
    let rest : total n g ≡ total n h = total-same n g h (λ k lt. e k (omega arith)) in
    omega (arith, here, rest)

pub total-none : (n : ℕ) (g : ℕ → ℕ) → ((k : ℕ) → k < n → g k ≡ 0) → total n g ≡ 0
total-none zero g e = refl
total-none (suc n) g e =
    let here : g n ≡ 0 = e n (omega arith) in
    let rest : total n g ≡ 0 = total-none n g (λ k lt. e k (omega arith)) in
    omega (arith, here, rest)

pub total-le : (n : ℕ) (g h : ℕ → ℕ) → ((k : ℕ) → k < n → g k ≤ h k) → total n g ≤ total n h
total-le zero g h e = omega arith
total-le (suc n) g h e =
    let here : g n ≤ h n = e n (omega arith) in
    let rest : total n g ≤ total n h = total-le n g h (λ k lt. e k (omega arith)) in
    omega (arith, here, rest)

pub total-first : (n : ℕ) (g : ℕ → ℕ) → g 0 + total n (λ k. g (suc k)) ≡ total n g + g n
total-first zero g = omega arith
total-first (suc n) g = let rest = total-first n g in omega (arith, rest)

pub total-split : (a b : ℕ) (g : ℕ → ℕ) → total (a + b) g ≡ total a g + total b (λ k. g (a + k))
total-split a zero g =
    let e : a + 0 ≡ a = omega arith in
    let t : total (a + 0) g ≡ total a g = ap (λ n. total n g) e in
    omega (arith, t)
total-split a (suc b) g =
    let e : a + suc b ≡ suc (a + b) = omega arith in
    let t : total (a + suc b) g ≡ total (a + b) g + g (a + b) = ap (λ n. total n g) e in
    let rest = total-split a b g in
    omega (arith, t, rest)

total-add : (n : ℕ) (g h : ℕ → ℕ) → total n (λ k. g k + h k) ≡ total n g + total n h
total-add zero g h = refl
total-add (suc n) g h = let rest = total-add n g h in omega (arith, rest)

pub total-swap : (n m : ℕ) (h : ℕ → ℕ → ℕ) → total n (λ i. total m (h i)) ≡ total m (λ j. total n (λ i. h i j))
total-swap zero m h = sym (total-none m (λ j. 0) (λ j lt. refl))
total-swap (suc n) m h =
    let rest : total n (λ i. total m (h i)) ≡ total m (λ j. total n (λ i. h i j)) = total-swap n m h in
    let both : total m (λ j. total n (λ i. h i j) + h n j) ≡ total m (λ j. total n (λ i. h i j)) + total m (h n) = total-add m (λ j. total n (λ i. h i j)) (h n) in
    omega (arith, rest, both)

-- rounds of r numbers each
pub total-rounds : (m r : ℕ) (g : ℕ → ℕ) → total (m * r) g ≡ total m (λ j. total r (λ c. g (j * r + c)))
total-rounds zero r g =
    let e : 0 * r ≡ 0 = omega arith in
    ap (λ n. total n g) e
total-rounds (suc m) r g =
    let e : suc m * r ≡ m * r + r = omega arith in
    let t : total (suc m * r) g ≡ total (m * r + r) g = ap (λ n. total n g) e in
    let s : total (m * r + r) g ≡ total (m * r) g + total r (λ c. g (m * r + c)) = total-split (m * r) r g in
    let rest = total-rounds m r g in
    omega (arith, t, s, rest)

-- it is one where the numbers begin, if they go around
pub total-around : (n s : ℕ) (g : ℕ → ℕ) → 0 < n → total n (λ c. g ((s + c) % n)) ≡ total n g
total-around n zero g some = total-same n (λ c. g ((0 + c) % n)) g (λ k lt.
    let e : 0 + k ≡ k = omega arith in
    ap (λ a. g (a % n)) e ∙ ap g (mod-eq_of_lt lt))
total-around n (suc s) g some =
    let rest = total-around n s g some in
    let first = total-first n (λ c. g ((s + c) % n)) in
    let zeroth : s + 0 ≡ s = omega arith in
    let last : g ((s + n) % n) ≡ g ((s + 0) % n) = ap g (add-mod_right s n) ∙ sym (ap (λ a. g (a % n)) zeroth) in
    let moved : total n (λ c. g ((suc s + c) % n)) ≡ total n (λ c. g ((s + suc c) % n)) = total-same n (λ c. g ((suc s + c) % n)) (λ c. g ((s + suc c) % n)) (λ k lt.
    let e : suc s + k ≡ s + suc k = omega arith in
    ap (λ a. g (a % n)) e) in
    omega (arith, rest, first, last, moved)

module _ {X : Type 0} (f : X → ℕ) where
  -- f of the value, if there is one
  abbrev pub weight : Option X → ℕ
  weight None = 0
  weight (Some x) = f x

  pub total-list : (xs : List X) → total (length xs) (λ i. weight (slice_get xs i)) ≡ sum_by f xs
  total-list [] = refl
  total-list (x ∷ xs) =
      let rest = total-list xs in
      let first = total-first (length xs) (λ i. weight (slice_get (x ∷ xs) i)) in
      let all = sum_by-cons f x xs in
      omega (arith, rest, first, all)

pub total-ones : (n : ℕ) → total n (λ k. 1) ≡ n
total-ones zero = refl
total-ones (suc n) = let rest = total-ones n in omega (arith, rest)
