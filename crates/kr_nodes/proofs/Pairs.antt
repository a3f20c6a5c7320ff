-- Lists whose elements belong together, each to its own.
use Rattle.std.proofs.Common.{◌≡◌, ℕ, zero, suc, List, [], ◌∷◌, length, set, refl, ap, subst}
use Rattle.std.specs.Prelude.{Some}
use Rattle.std.specs.List.{slice_get}
use Rattle.kr_defs.proofs.Tests.{some_is}
use Rattle.kr_nodes.specs.Standing.{AllPairs}

module _ {X Y : Type 0} (P : X → Y → Type 0) where
  pub same_length : (xs : List X) (ys : List Y) → AllPairs P xs ys → length xs ≡ length ys
  same_length [] [] h = refl
  same_length [] (y ∷ ys) h = absurd h
  same_length (x ∷ xs) [] h = absurd h
  same_length (x ∷ xs) (y ∷ ys) h = ap suc (same_length xs ys h.1)

  pub pair_at : (xs : List X) (ys : List Y) (k : ℕ) (y : Y) → AllPairs P xs ys → slice_get ys k ≡ Some y → (x : X) × (slice_get xs k ≡ Some x) × P x y
  pair_at [] [] k y h is = absurd cc
  pair_at [] (z ∷ ys) k y h is = absurd h
  pair_at (x ∷ xs) [] k y h is = absurd h
  pair_at (x ∷ xs) (z ∷ ys) zero y h is = (x, refl, subst (P x) (some_is z y is) h.0)
  pair_at (x ∷ xs) (z ∷ ys) (suc k) y h is = pair_at xs ys k y h.1 is

  module _ (Q : X → Y → Type 0) (up : (x : X) (y : Y) → P x y → Q x y) where
    pub pairs_up : (xs : List X) (ys : List Y) → AllPairs P xs ys → AllPairs Q xs ys
    pairs_up [] [] h = tt
    pairs_up [] (y ∷ ys) h = absurd h
    pairs_up (x ∷ xs) [] h = absurd h
    pairs_up (x ∷ xs) (y ∷ ys) h = (up x y h.0, pairs_up xs ys h.1)

    pub pairs_put : (xs : List X) (ys : List Y) (k : ℕ) (x : X) (y : Y) → AllPairs P xs ys → Q x y → AllPairs Q (set xs k x) (set ys k y)
    pairs_put [] [] k x y h own = tt
    pairs_put [] (z ∷ ys) k x y h own = absurd h
    pairs_put (w ∷ xs) [] k x y h own = absurd h
    pairs_put (w ∷ xs) (z ∷ ys) zero x y h own = (own, pairs_up xs ys h.1)
    pairs_put (w ∷ xs) (z ∷ ys) (suc k) x y h own = (up w z h.0, pairs_put xs ys k x y h.1 own)
