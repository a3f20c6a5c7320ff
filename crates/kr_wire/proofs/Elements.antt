-- Reading elements one after the other, as a loop does.
use Rattle.std.proofs.Common.{◌≡◌, ℕ, suc, ◌-◌, ◌+◌, ◌≤◌, ◌<◌, List, [], ◌∷◌, ◌++◌, Ok, Err, refl, sym, ap, ◌∙◌, append_assoc, arith}
use Rattle.std.proofs.lemmas.List.{append-nil}
use Rattle.kr_wire.specs.declared.WireFault.{WireFault}
use Rattle.kr_wire.specs.Reading.{◌>>=◌, Read, elements_at}

module _ {X : Type 0} (one : List ℕ → Read X) where
  -- what was read before, and what is still read
  abbrev pub with_front : List X → Read (List X) → Read (List X)
  with_front front read = read >>= λ x. Ok (front ++ x.0, x.1)

  regroup : (front : List X) (x : X) (read : Read (List X)) → with_front front (read >>= λ y. Ok (x ∷ y.0, y.1)) ≡ with_front (front ++ x ∷ []) read
  regroup front x (Ok y) = ap (λ (xs : List X). Ok (xs, y.1)) (simp append_assoc)
  regroup front x (Err f) = refl

  module _ (front : List X) (count i : ℕ) (bytes : List ℕ) (total : Read (List X)) (so_far : with_front front (elements_at one (count - i) bytes) ≡ total) where
    pub goes_on : (x : X) (after : List ℕ) → i < count → one bytes ≡ Ok (x, after) → with_front (front ++ x ∷ []) (elements_at one (count - (i + 1)) after) ≡ total
    unfolding elements_at
    goes_on x after lt h =
        let k : count - i ≡ suc (count - (i + 1)) = omega arith in
        let step : with_front front (elements_at one (count - i) bytes) ≡ with_front (front ++ x ∷ []) (elements_at one (count - (i + 1)) after) = rw (k, h) (regroup front x (elements_at one (count - (i + 1)) after)) in
        sym step ∙ so_far

    pub ends_in : (fault : WireFault) → i < count → one bytes ≡ Err fault → total ≡ Err fault
    unfolding elements_at
    ends_in fault lt h =
        let k : count - i ≡ suc (count - (i + 1)) = omega arith in
        let step : with_front front (elements_at one (count - i) bytes) ≡ Err fault = rw (k, h) refl in
        sym so_far ∙ step

    pub is_done : count ≤ i → total ≡ Ok (front, bytes)
    unfolding elements_at
    is_done le =
        let k : count - i ≡ 0 = omega arith in
        let step : with_front front (elements_at one (count - i) bytes) ≡ Ok (front, bytes) = rw k (ap (λ (xs : List X). Ok (xs, bytes)) (append-nil front)) in
        sym so_far ∙ step
