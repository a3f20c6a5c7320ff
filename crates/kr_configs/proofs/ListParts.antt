-- Parts of lists, as code has them.
use Rattle.std.proofs.Common.{◌≡◌, ◌∙◌, ℕ, Bool, true, false, cond, List, [], ◌∷◌, ◌++◌, ◌||◌, refl, sym, ap}
use Rattle.std.specs.Prelude.{map, bytes_eq}
use Rattle.std.specs.Borrow.{Bor}
use Rattle.std.specs.Cmp.Lexicographic.{nat_list_eq_equiv}
use Rattle.std.specs.List.{join_by, join_with_byte, list_any}
use Rattle.std.proofs.lemmas.List.{append-nil}

module _ (c : ℕ) where
  row : (x : Bor (List ℕ)) (xs : List (Bor (List ℕ))) → join_by (λ (s : Bor (List ℕ)). s.now) (c ∷ []) (x ∷ xs) ≡ join_with_byte c (map (λ s. s.now) (x ∷ xs))
  row x [] = append-nil x.now
  row x (y ∷ ys) = ap (λ more. x.now ++ c ∷ more) (row y ys)

  pub joined_rows : (xs : List (Bor (List ℕ))) → join_by (λ (s : Bor (List ℕ)). s.now) (c ∷ []) xs ≡ join_with_byte c (map (λ s. s.now) xs)
  joined_rows [] = refl
  joined_rows (x ∷ xs) = row x xs

any_last : {X : Type 0} (p : X → Bool) (xs : List X) (x : X) → list_any p (xs ++ x ∷ []) ≡ cond (p x) true (list_any p xs)
any_last p [] x = elim (p x) as (λ b. (b || false) ≡ cond b true false) [ true ↦ refl | false ↦ refl ]
any_last p (y ∷ ys) x =
    ap (λ b. p y || b) (any_last p ys x) ∙ elim (p x) as (λ b. (p y || cond b true (list_any p ys)) ≡ cond b true (p y || list_any p ys)) [
      | true ↦ elim (p y) as (λ b. (b || true) ≡ true) [ true ↦ refl | false ↦ refl ]
      | false ↦ refl
    ]

abbrev is_among : List ℕ → List (Bor (List ℕ)) → Bool
is_among part xs = list_any (λ (s : Bor (List ℕ)). bytes_eq part s.now) xs

-- one part more is known
pub known_more : (known known' list : List (Bor (List ℕ))) (one : Bor (List ℕ))
    → ((q : Bor (List ℕ)) → is_among q.now known' ≡ cond (bytes_eq one.now q.now) true (is_among q.now known))
    → ((part : List ℕ) → is_among part known ≡ is_among part list)
    → (part : List ℕ) → is_among part known' ≡ is_among part (list ++ one ∷ [])
known_more known known' list one updates same part =
    updates (record one { now = part })
    ∙ ap (λ b. cond b true (is_among part known)) (nat_list_eq_equiv.symm one.now part)
    ∙ ap (λ b. cond (bytes_eq part one.now) true b) (same part)
    ∙ sym (any_last (λ (s : Bor (List ℕ)). bytes_eq part s.now) list one)

pub among_seen : (part : List ℕ) (xs : List (Bor (List ℕ))) → is_among part xs ≡ list_any (bytes_eq part) (map (λ s. s.now) xs)
among_seen part [] = refl
among_seen part (x ∷ xs) = ap (λ b. bytes_eq part x.now || b) (among_seen part xs)
