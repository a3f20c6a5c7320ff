-- A list in chunks.
use Rattle.std.proofs.Common.{◌≡◌, ◌∙◌, ℕ, zero, suc, ◌≤◌, List, [], ◌∷◌, ◌++◌, length, length-append, refl, sym, ap, arith, inl, inr}
use Rattle.std.specs.Prelude.{take, drop, map, flat_map}
use Rattle.std.specs.List.{AllByRecursion}
use Rattle.std.proofs.lemmas.List.{append-nil, length-map, take_at, drop_at, take-append-drop, length-take-le, length-drop, take-map, drop-map, take_all}
use Rattle.std.proofs.lemmas.Bool.{cases_lt}
use Rattle.kr_snapshot.specs.ImageText.{chunks_within, chunks}

pub no_elements : {X : Type 0} (xs : List X) → length xs ≡ 0 → xs ≡ []
no_elements [] none = refl
no_elements (x ∷ xs) none = absurd (omega (arith, none))

no_chunks : {X : Type 0} (n most : ℕ) → chunks_within {X = X} n most [] ≡ []
no_chunks zero most = refl
no_chunks (suc n) most = refl

-- more chunks may be asked for than there are elements
enough : {X : Type 0} (n m most : ℕ) (xs : List X) → 1 ≤ most → length xs ≤ n → length xs ≤ m → chunks_within n most xs ≡ chunks_within m most xs
enough {X} n m most [] some a b = no_chunks {X = X} n most ∙ sym (no_chunks {X = X} m most)
enough zero m most (x ∷ xs) some a b = absurd (omega (arith, a))
enough (suc n) zero most (x ∷ xs) some a b = absurd (omega (arith, b))
enough {X} (suc n) (suc m) most (x ∷ xs) some a b =
    let all : List X = x ∷ xs in
    let left = length-drop most all in
    ap (λ (cs : List (List X)). take most all ∷ cs) (enough n m most (drop most all) some (omega (arith, left, a, some)) (omega (arith, left, b, some)))

-- the chunk in front
front : {X : Type 0} (most : ℕ) (xs : List X) → 1 ≤ most → 1 ≤ length xs → chunks most xs ≡ take most xs ∷ chunks most (drop most xs)
front most [] some there = absurd (omega (arith, there))
front {X} most (x ∷ xs) some there =
    let all : List X = x ∷ xs in
    let left = length-drop most all in
    ap (λ (cs : List (List X)). take most all ∷ cs) (enough (length xs) (length (drop most all)) most (drop most all) some (omega (arith, left, some)) (omega arith))

pub chunk_first : {X : Type 0} (most : ℕ) (xs ys : List X) → 1 ≤ most → length xs ≡ most → chunks most (xs ++ ys) ≡ xs ∷ chunks most ys
chunk_first {X} most xs ys some full =
    let long = length-append xs ys in
    front most (xs ++ ys) some (omega (arith, long, full, some)) ∙ rw (take_at xs ys most full, drop_at xs ys most full) refl

pub chunk_last : {X : Type 0} (most : ℕ) (xs : List X) → 1 ≤ length xs → length xs ≤ most → chunks most xs ≡ xs ∷ []
chunk_last {X} most xs there few =
    let left = length-drop most xs in
    let none : drop most xs ≡ [] = no_elements (drop most xs) (omega (arith, left, few)) in
    let all : take most xs ≡ xs = sym (append-nil (take most xs)) ∙ (ap (λ (l : List X). take most xs ++ l) (sym none) ∙ take-append-drop most xs) in
    front most xs (omega (arith, there, few)) there ∙ rw (all, none) refl

module _ {X Y : Type 0} (f : X → Y) where
  mapped_within : (n most : ℕ) (xs : List X) → chunks_within n most (map f xs) ≡ map (map f) (chunks_within n most xs)
  mapped_within zero most [] = refl
  mapped_within (suc n) most [] = refl
  mapped_within zero most (x ∷ xs) = refl
  mapped_within (suc n) most (x ∷ xs) =
      let all : List X = x ∷ xs in
      ap (λ (c : List Y). c ∷ chunks_within n most (drop most (map f all))) (take-map f most all)
      ∙ ap (λ (cs : List (List Y)). map f (take most all) ∷ cs) (ap (chunks_within n most) (drop-map f most all) ∙ mapped_within n most (drop most all))

  pub chunks_mapped : (most : ℕ) (xs : List X) → chunks most (map f xs) ≡ map (map f) (chunks most xs)
  chunks_mapped most xs = ap (λ n. chunks_within n most (map f xs)) (length-map xs f) ∙ mapped_within (length xs) most xs

all_within : {X : Type 0} (n most : ℕ) (xs : List X) → 1 ≤ most → length xs ≤ n → flat_map (λ (c : List X). c) (chunks_within n most xs) ≡ xs
all_within zero most [] some few = refl
all_within (suc n) most [] some few = refl
all_within zero most (x ∷ xs) some few = absurd (omega (arith, few))
all_within {X} (suc n) most (x ∷ xs) some few =
    let all : List X = x ∷ xs in
    let left = length-drop most all in
    ap (λ (l : List X). take most all ++ l) (all_within n most (drop most all) some (omega (arith, left, few, some))) ∙ take-append-drop most all

-- all chunks together are the list
pub chunks_all : {X : Type 0} (most : ℕ) (xs : List X) → 1 ≤ most → flat_map (λ (c : List X). c) (chunks most xs) ≡ xs
chunks_all most xs some = all_within (length xs) most xs some (omega arith)

-- one or more, and no more than there is room for
pub record Sized {X : Type 0} (most : ℕ) (xs : List X) : Type 0 where
  pub some : 1 ≤ length xs
  pub few : length xs ≤ most

sized_front : {X : Type 0} (most : ℕ) (xs : List X) → 1 ≤ most → 1 ≤ length xs → Sized most (take most xs)
sized_front most xs some there = elim (cases_lt (length xs) most) [
  | inl lt ↦ let all = take_all most xs (omega (arith, lt)) in record { some = rw all there; few = rw all (omega (arith, lt)) }
  | inr ge ↦ let l = length-take-le most xs ge in record { some = omega (arith, l, some); few = omega (arith, l) }
]

sized_within : {X : Type 0} (n most : ℕ) (xs : List X) → 1 ≤ most → AllByRecursion (Sized most) (chunks_within n most xs)
sized_within zero most [] some = tt
sized_within (suc n) most [] some = tt
sized_within zero most (x ∷ xs) some = tt
sized_within {X} (suc n) most (x ∷ xs) some = let all : List X = x ∷ xs in (sized_front most all some (omega arith), sized_within n most (drop most all) some)

pub chunks_sized : {X : Type 0} (most : ℕ) (xs : List X) → 1 ≤ most → AllByRecursion (Sized most) (chunks most xs)
chunks_sized most xs some = sized_within (length xs) most xs some
