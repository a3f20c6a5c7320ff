-- Lists of indices: what is in them, and what stands once.
use Rattle.std.proofs.Common.{◌≡◌, ◌≢◌, ◌⊎◌, inl, inr, ℕ, List, [], ◌∷◌, ◌++◌, refl, sym, subst}
use Rattle.kr_contact.specs.Rings.{IsOut, IsApart, IsIn}

pub flip : {i j : ℕ} → i ≢ j → j ≢ i
flip other same = other (sym same)

-- ---- one that isn't there

pub out_here : (i : ℕ) (xs : List ℕ) (j : ℕ) (ys : List ℕ) → IsOut i (xs ++ j ∷ ys) → i ≢ j
out_here i [] j ys o = o.0
out_here i (x ∷ xs) j ys o = out_here i xs j ys o.1

pub out_drop : (i : ℕ) (xs : List ℕ) (j : ℕ) (ys : List ℕ) → IsOut i (xs ++ j ∷ ys) → IsOut i (xs ++ ys)
out_drop i [] j ys o = o.1
out_drop i (x ∷ xs) j ys o = (o.0, out_drop i xs j ys o.1)

pub out_snoc : (i : ℕ) (xs : List ℕ) (j : ℕ) → IsOut i xs → i ≢ j → IsOut i (xs ++ j ∷ [])
out_snoc i [] j o other = (other, tt)
out_snoc i (x ∷ xs) j o other = (o.0, out_snoc i xs j o.1 other)

pub out_in : (i j : ℕ) (xs : List ℕ) → IsOut i xs → IsIn j xs → i ≢ j
out_in i j [] o here = absurd here
out_in i j (x ∷ xs) o (inl same) = λ e. o.0 (subst (λ k. i ≡ k) same e)
out_in i j (x ∷ xs) o (inr later) = out_in i j xs o.1 later

-- ---- each stands once

pub apart_drop : (xs : List ℕ) (i : ℕ) (ys : List ℕ) → IsApart (xs ++ i ∷ ys) → IsApart (xs ++ ys)
apart_drop [] i ys a = a.1
apart_drop (x ∷ xs) i ys a = (out_drop x xs i ys a.0, apart_drop xs i ys a.1)

pub apart_snoc : (xs : List ℕ) (i : ℕ) → IsApart xs → IsOut i xs → IsApart (xs ++ i ∷ [])
apart_snoc [] i a o = (tt, tt)
apart_snoc (x ∷ xs) i a o = (out_snoc x xs i a.0 (flip o.0), apart_snoc xs i a.1 o.1)

pub apart_out : (xs : List ℕ) (i : ℕ) (ys : List ℕ) → IsApart (xs ++ i ∷ ys) → IsOut i (xs ++ ys)
apart_out [] i ys a = a.0
apart_out (x ∷ xs) i ys a = (flip (out_here x xs i ys a.0), apart_out xs i ys a.1)

-- ---- one that is there

pub in_here : (xs : List ℕ) (i : ℕ) (ys : List ℕ) → IsIn i (xs ++ i ∷ ys)
in_here [] i ys = inl refl
in_here (x ∷ xs) i ys = inr (in_here xs i ys)

pub in_more : (j : ℕ) (xs : List ℕ) (i : ℕ) (ys : List ℕ) → IsIn j (xs ++ ys) → IsIn j (xs ++ i ∷ ys)
in_more j [] i ys there = inr there
in_more j (x ∷ xs) i ys (inl same) = inl same
in_more j (x ∷ xs) i ys (inr later) = inr (in_more j xs i ys later)

pub in_drop : (j : ℕ) (xs : List ℕ) (i : ℕ) (ys : List ℕ) → j ≢ i → IsIn j (xs ++ i ∷ ys) → IsIn j (xs ++ ys)
in_drop j [] i ys other (inl same) = absurd (other same)
in_drop j [] i ys other (inr later) = later
in_drop j (x ∷ xs) i ys other (inl same) = inl same
in_drop j (x ∷ xs) i ys other (inr later) = inr (in_drop j xs i ys other later)

pub in_snoc : (j : ℕ) (xs : List ℕ) (i : ℕ) → IsIn j xs → IsIn j (xs ++ i ∷ [])
in_snoc j [] i there = absurd there
in_snoc j (x ∷ xs) i (inl same) = inl same
in_snoc j (x ∷ xs) i (inr later) = inr (in_snoc j xs i later)

pub snoc_in : (j : ℕ) (xs : List ℕ) (i : ℕ) → IsIn j (xs ++ i ∷ []) → IsIn j xs ⊎ (j ≡ i)
snoc_in j [] i (inl same) = inr same
snoc_in j [] i (inr none) = absurd none
snoc_in j (x ∷ xs) i (inl same) = inl (inl same)
snoc_in j (x ∷ xs) i (inr later) = elim (snoc_in j xs i later) as (λ _. IsIn j (x ∷ xs) ⊎ (j ≡ i)) [ inl there ↦ inl (inr there) | inr last ↦ inr last ]

-- where it stands
pub in_splits : (i : ℕ) (is : List ℕ) → IsIn i is → (xs : List ℕ) × (ys : List ℕ) × (is ≡ xs ++ i ∷ ys)
in_splits i [] there = absurd there
in_splits i (j ∷ js) (inl same) = ([], js, subst (λ k. k ∷ js ≡ i ∷ js) same refl)
in_splits i (j ∷ js) (inr later) =
    let rest = in_splits i js later in
    (j ∷ rest.0, rest.1, subst (λ ks. j ∷ js ≡ j ∷ ks) rest.2 refl)
