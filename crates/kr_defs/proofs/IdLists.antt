-- What the tests on lists of ids tell, and what gives them.
use Rattle.std.proofs.Common.{◌≡◌, ◌∙◌, sym, refl, subst, inl, inr, Bool, true, false, not, cond, ◌&&◌, ◌||◌, ℕ, ◌≤◌, length, List, [], ◌∷◌, ◌++◌, ℤ, arith}
use Rattle.std.proofs.lemmas.Bool.{and_parts, and_from, or_cases, or_left, or_right, cases_Bool, leb-true, le-leb, lt-ltb}
use Rattle.std.proofs.lemmas.List.Folds.{list_any-append}
use Rattle.std.proofs.lemmas.List.Sums.{length-filter, count_by-le-length}
use Rattle.std.specs.Prelude.{filter, nat_lt, nat_le}
use Rattle.std.specs.List.{list_all}
use Rattle.std.specs.Ordering.{int_eq}
use Rattle.std.specs.Cmp.{signed_Decides}
use Rattle.kr_defs.specs.Ids.{has, is_distinct, is_within, are_apart, without}

pub same_id : (x y : ℤ) → int_eq x y ≡ true → x ≡ y
same_id x y e = (signed_Decides x y).0 e

pub id_itself : (x : ℤ) → int_eq x x ≡ true
id_itself x = (signed_Decides x x).1 refl

pub refutes : (b : Bool) → not b ≡ true → b ≡ true → ⊥
refutes true fails holds = cc
refutes false fails holds = cc

pub refuted : (b : Bool) → (b ≡ true → ⊥) → not b ≡ true
refuted true f = absurd (f refl)
refuted false f = refl

-- a test of each is one of every id that the list has
pub all_at : (p : ℤ → Bool) (xs : List ℤ) (id : ℤ) → list_all p xs ≡ true → has xs id ≡ true → p id ≡ true
all_at p [] id all h = absurd cc
all_at p (x ∷ xs) id all h =
    let parts = and_parts (p x) (list_all p xs) all in
    elim (or_cases (int_eq x id) (has xs id) h) [
      | inl e ↦ let P : ℤ → Type 0 = λ y. p y ≡ true in subst P (same_id x id e) parts.0
      | inr k ↦ all_at p xs id parts.1 k
    ]

pub all_from : (p : ℤ → Bool) (xs : List ℤ) → ((id : ℤ) → has xs id ≡ true → p id ≡ true) → list_all p xs ≡ true
all_from p [] f = refl
all_from p (x ∷ xs) f =
    and_from (p x) (list_all p xs) (f x (or_left (int_eq x x) (has xs x) (id_itself x)))
    (all_from p xs (λ id h. f id (or_right (int_eq x id) (has xs id) h)))

-- what a filter keeps was there
pub has_before : (p : ℤ → Bool) (xs : List ℤ) (id : ℤ) → has (filter p xs) id ≡ true → has xs id ≡ true
has_before p [] id h = h
has_before p (x ∷ xs) id h =
    elim (p x) as (λ b. has (cond b (x ∷ filter p xs) (filter p xs)) id ≡ true → (int_eq x id || has xs id) ≡ true) [
      | true ↦ λ k. elim (or_cases (int_eq x id) (has (filter p xs) id) k) [
        | inl e ↦ or_left (int_eq x id) (has xs id) e
        | inr l ↦ or_right (int_eq x id) (has xs id) (has_before p xs id l)
      ]
      | false ↦ λ k. or_right (int_eq x id) (has xs id) (has_before p xs id k)
    ] h

-- and passes
pub passes_kept : (p : ℤ → Bool) (xs : List ℤ) (id : ℤ) → has (filter p xs) id ≡ true → p id ≡ true
passes_kept p [] id h = absurd cc
passes_kept p (x ∷ xs) id h =
    elim (cases_Bool (p x)) [
      | inl holds ↦ elim (or_cases (int_eq x id) (has (filter p xs) id) (rw holds at h)) [
        | inl e ↦ let P : ℤ → Type 0 = λ y. p y ≡ true in subst P (same_id x id e) holds
        | inr l ↦ passes_kept p xs id l
      ]
      | inr fails ↦ passes_kept p xs id (rw fails at h)
    ]

-- what was there and passes is kept
pub has_kept : (p : ℤ → Bool) (xs : List ℤ) (id : ℤ) → has xs id ≡ true → p id ≡ true → has (filter p xs) id ≡ true
has_kept p [] id h passes = h
has_kept p (x ∷ xs) id h passes =
    elim (cases_Bool (p x)) [
      | inl holds ↦ rw holds (elim (or_cases (int_eq x id) (has xs id) h) [
        | inl e ↦ or_left (int_eq x id) (has (filter p xs) id) e
        | inr l ↦ or_right (int_eq x id) (has (filter p xs) id) (has_kept p xs id l passes)
      ])
      | inr fails ↦ rw fails (elim (or_cases (int_eq x id) (has xs id) h) [
        | inl e ↦ let at_x : p x ≡ true = (let P : ℤ → Type 0 = λ y. p y ≡ true in subst P (sym (same_id x id e)) passes) in absurd cc
        | inr l ↦ has_kept p xs id l passes
      ])
    ]

pub distinct_kept : (p : ℤ → Bool) (xs : List ℤ) → is_distinct xs ≡ true → is_distinct (filter p xs) ≡ true
distinct_kept p [] h = refl
distinct_kept p (x ∷ xs) h =
    let parts = and_parts (not (has xs x)) (is_distinct xs) h in
    elim (p x) as (λ b. is_distinct (cond b (x ∷ filter p xs) (filter p xs)) ≡ true) [
      | true ↦ and_from (not (has (filter p xs) x)) (is_distinct (filter p xs))
          (refuted (has (filter p xs) x) (λ k. refutes (has xs x) parts.0 (has_before p xs x k)))
          (distinct_kept p xs parts.1)
      | false ↦ distinct_kept p xs parts.1
    ]

-- two lists of which each is distinct and that have no common member
pub joined_distinct : (xs ys : List ℤ) → is_distinct xs ≡ true → is_distinct ys ≡ true → ((id : ℤ) → has xs id ≡ true → not (has ys id) ≡ true) → is_distinct (xs ++ ys) ≡ true
joined_distinct [] ys first second apart = second
joined_distinct (x ∷ xs) ys first second apart =
    let parts = and_parts (not (has xs x)) (is_distinct xs) first in
    and_from (not (has (xs ++ ys) x)) (is_distinct (xs ++ ys))
    (refuted (has (xs ++ ys) x) (λ h. elim (or_cases (has xs x) (has ys x) (sym (list_any-append (λ y. int_eq y x) xs ys) ∙ h)) [
      | inl k ↦ refutes (has xs x) parts.0 k
      | inr k ↦ refutes (has ys x) (apart x (or_left (int_eq x x) (has xs x) (id_itself x))) k
    ]))
    (joined_distinct xs ys parts.1 second (λ id h. apart id (or_right (int_eq x id) (has xs id) h)))

pub all_kept : (p q : ℤ → Bool) (xs : List ℤ) → list_all q xs ≡ true → list_all q (filter p xs) ≡ true
all_kept p q xs all = all_from q (filter p xs) (λ id h. all_at q xs id all (has_before p xs id h))

pub few_kept : (p : ℤ → Bool) (xs : List ℤ) (most : ℕ) → nat_le (length xs) most ≡ true → nat_le (length (filter p xs)) most ≡ true
few_kept p xs most few =
    let fewer : length (filter p xs) ≤ length xs = rw length-filter (count_by-le-length p xs) in
    let bound : length xs ≤ most = leb-true (length xs) most few in
    le-leb (length (filter p xs)) most (omega arith)

-- a list that isn't within another has a member besides
pub some_left : (xs ys : List ℤ) → not (is_within xs ys) ≡ true → nat_lt 0 (length (without xs ys)) ≡ true
some_left [] ys h = absurd cc
some_left (x ∷ xs) ys h =
    elim (has ys x) as (λ b. not (b && is_within xs ys) ≡ true → nat_lt 0 (length (cond (not b) (x ∷ without xs ys) (without xs ys))) ≡ true) [
      | true ↦ λ k. some_left xs ys k
      | false ↦ λ k. lt-ltb 0 (length (x ∷ without xs ys)) (omega arith)
    ] h

pub first_member : (xs : List ℤ) → nat_lt 0 (length xs) ≡ true → (id : ℤ) × (has xs id ≡ true)
first_member [] h = absurd cc
first_member (x ∷ xs) h = (x, or_left (int_eq x x) (has xs x) (id_itself x))

pub not_within_none : (xs : List ℤ) → nat_lt 0 (length xs) ≡ true → not (is_within xs []) ≡ true
not_within_none [] h = absurd cc
not_within_none (x ∷ xs) h = refl

pub apart_none : (xs : List ℤ) → are_apart xs [] ≡ true
apart_none xs = all_from (λ id. not (has [] id)) xs (λ id h. refl)

-- one id alone
pub has_only : (x id : ℤ) → has (x ∷ []) id ≡ true → x ≡ id
has_only x id h =
    elim (or_cases (int_eq x id) false h) [ inl e ↦ same_id x id e | inr k ↦ absurd cc ]

-- the same members in any order
pub record AreSame (xs ys : List ℤ) : Type 0 where
  pub forth : (id : ℤ) → has xs id ≡ true → has ys id ≡ true
  pub back : (id : ℤ) → has ys id ≡ true → has xs id ≡ true

pub within_same : (xs ys those : List ℤ) → AreSame xs ys → is_within ys those ≡ true → is_within xs those ≡ true
within_same xs ys those same h = all_from (has those) xs (λ id k. all_at (has those) ys id h (same.forth id k))

pub apart_same : (xs ys us vs : List ℤ) → AreSame xs ys → AreSame us vs → are_apart ys vs ≡ true → are_apart xs us ≡ true
apart_same xs ys us vs first second h =
    all_from (λ id. not (has us id)) xs (λ id k. refuted (has us id)
    (λ there. refutes (has vs id) (all_at (λ id. not (has vs id)) ys id h (first.forth id k)) (second.forth id there)))
