-- A version that is looked for by its number, among versions whose numbers fall.
use Rattle.std.proofs.Common.{◌≡◌, ◌≤◌, ◌<◌, List, [], ◌∷◌, Option, None, Bool, true, false, cond, not, ℕ, suc, zero, length, get_or, refl, sym, ◌∙◌, ap, arith, nat_le, ⊎_elim}
use Rattle.std.specs.List.{AllByRecursion}
use Rattle.std.specs.List.Sorted.{IsPartitionedBy, IsPartitionPoint}
use Rattle.std.proofs.lemmas.Bool.{cases_lt}
use Rattle.kr_timeline.specs.Chains.{value_at, Falls}

module _ {V : Type 0} (number : ℕ) where
  -- the version is above the number
  abbrev pub is_later : ℕ × Option V → Bool
  is_later v = not (nat_le v.0 number)

  below_at : (n : ℕ) (older : List (ℕ × Option V)) (k : ℕ) (d : ℕ × Option V) → AllByRecursion (λ (w : ℕ × Option V). w.0 < n) older → k < length older → (get_or older k d).0 < n
  below_at n [] k d a lt = absurd (omega arith)
  below_at n (v ∷ older) zero d a lt = a.0
  below_at n (v ∷ older) (suc k) d a lt = below_at n older k d a.1 (omega arith)

  later_than : (v w : ℕ × Option V) → w.0 < v.0 → is_later w ≡ true → is_later v ≡ true
  later_than v w lt later = grind arith

  pub later_first : (chain : List (ℕ × Option V)) → Falls chain → IsPartitionedBy is_later chain
  later_first [] f i j d le lt later = absurd (omega arith)
  later_first (v ∷ older) f zero zero d le lt later = later
  later_first (v ∷ older) f zero (suc j) d le lt later = later_than v (get_or older j d) (below_at v.0 older j d f.0 (omega arith)) later
  later_first (v ∷ older) f (suc i) zero d le lt later = absurd (omega arith)
  later_first (v ∷ older) f (suc i) (suc j) d le lt later = later_first older f.1 i j d (omega arith) (omega arith) later

  -- of the versions before the place each is above the number, and of the others none is
  abbrev pub IsPlace : List (ℕ × Option V) → ℕ → Type 0
  IsPlace chain place = IsPartitionPoint (λ v. is_later v ≡ true) (λ v. is_later v ≡ false) chain place

  rest_place : (v : ℕ × Option V) (older : List (ℕ × Option V)) (place : ℕ) → IsPlace (v ∷ older) (suc place) → IsPlace older place
  rest_place v older place p = (λ k d from lt. p.0 (suc k) d (omega arith) (omega arith), λ k d from lt. p.1 (suc k) d (omega arith) (omega arith))

  past_first : (v : ℕ × Option V) (older : List (ℕ × Option V)) → is_later v ≡ true → value_at number (v ∷ older) ≡ value_at number older
  past_first v older later =
      let above : nat_le v.0 number ≡ false = grind arith in
      ap (λ b. cond b v.1 (value_at number older)) above

  pub value_placed : (chain : List (ℕ × Option V)) (place : ℕ) (w : ℕ × Option V) → IsPlace chain place → place < length chain → w ≡ get_or chain place w → value_at number chain ≡ w.1
  value_placed [] place w p lt is = absurd (omega arith)
  value_placed (v ∷ older) zero w p lt is =
      let up_to : nat_le v.0 number ≡ true = let not_later : is_later v ≡ false = p.1 0 v (omega arith) (omega arith) in grind arith in
      let here : w ≡ v = is in
      ap (λ b. cond b v.1 (value_at number older)) up_to ∙ ap (λ (x : ℕ × Option V). x.1) (sym here)
  value_placed (v ∷ older) (suc place) w p lt is =
      past_first v older (p.0 0 v (omega arith) (omega arith)) ∙ value_placed older place w (rest_place v older place p) (omega arith) is

  pub nothing_placed : (chain : List (ℕ × Option V)) (place : ℕ) → IsPlace chain place → length chain ≤ place → value_at number chain ≡ None
  nothing_placed [] place p le = refl
  nothing_placed (v ∷ older) zero p le = absurd (omega arith)
  nothing_placed (v ∷ older) (suc place) p le =
      past_first v older (p.0 0 v (omega arith) (omega arith)) ∙ nothing_placed older place (rest_place v older place p) (omega arith)

-- where nothing stands at a place the list has ended
pub ended : (place len : ℕ) → (place < len → false ≡ true) → len ≤ place
ended place len h = ⊎_elim (λ lt. absurd (let no = h lt in cc)) (λ le. le) (cases_lt place len)
