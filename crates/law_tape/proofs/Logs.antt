-- Batches that meet: where one stands, where one ends, and what a list begins with.
use Rattle.std.proofs.Common.{◌≡◌, ◌∙◌, sym, ℕ, suc, ◌+◌, ◌<◌, ◌≤◌, Bool, true, false, cond, List, [], ◌∷◌, ◌++◌, refl, ap, subst, arith, inl, inr, ◌⊎◌}
use Rattle.std.proofs.lemmas.Bool.{eqb-true}
use Rattle.std.specs.Prelude.{◌&&◌, ◌||◌, length, drop, take, Option, None, Some, nat_eq, nat_le, nat_lt, slice_get}
use Rattle.std.specs.List.{list_all, list_any, zip}
use Rattle.std.specs.Option.{unwrap_or}
use Rattle.law_quorum.specs.Batches.{Batch, BatchStandsAt, Meet, behind}
use Rattle.law_quorum.proofs.KeptLog.{both}
use Rattle.law_quorum.proofs.Places.{meet_after}
use Rattle.law_tape.specs.Equality.{agree, begins_with, same_batch}
use Rattle.law_tape.specs.Rules.{end_behind, is_boundary, is_first}
use Rattle.law_tape.proofs.EqualityLemmas.{agrees, batch_is, either, eq_true, first_of_two, is_batch, joined, le_true, lt_true, second_of_two, true_le, true_lt, true_or_false}

-- ---- where a batch stands

pub record StandsIn (from : ℕ) (log : List Batch) (b : Batch) : Type 0 where
  pub before : List Batch
  pub after : List Batch
  pub split : log ≡ before ++ b ∷ after
  pub begins : behind from before ≡ b.base

pub stands_in : (from : ℕ) (log : List Batch) (b : Batch) → Meet from log → list_any (same_batch b) log ≡ true → StandsIn from log b
stands_in from [] b m t = absurd cc
stands_in from (x ∷ xs) b (at, some, m) t = elim (either (same_batch b x) (list_any (same_batch b) xs) t) [
  | inl here ↦ (let e : b ≡ x = batch_is b x here in record {
    before = [];
    after = xs;
    split = ap (λ (y : Batch). y ∷ xs) (sym e);
    begins = sym at ∙ ap (λ (y : Batch). y.base) (sym e);
  })
  | inr later ↦ (let r = stands_in (from + x.count) xs b m later in record {
    before = x ∷ r.before;
    after = r.after;
    split = ap (λ (ys : List Batch). x ∷ ys) r.split;
    begins = r.begins;
  })
]

pub any_in : (p : Batch → Bool) (xs : List Batch) (b : Batch) (ys : List Batch) → p b ≡ true → list_any p (xs ++ b ∷ ys) ≡ true
any_in p [] b ys t = first_of_two (p b) (list_any p ys) t
any_in p (x ∷ xs) b ys t = second_of_two (p x) (list_any p (xs ++ b ∷ ys)) (any_in p xs b ys t)

pub stands_at : (log : List Batch) (place : ℕ) (b : Batch) → Meet 0 log → (nat_eq b.base place && list_any (same_batch b) log) ≡ true → BatchStandsAt log place b
stands_at log place b m t =
    let p = both (nat_eq b.base place) (list_any (same_batch b) log) t in
    let r = stands_in 0 log b m p.1 in
    record { before = r.before; after = r.after; split = r.split; begins = r.begins ∙ eqb-true b.base place p.0 }

pub base_there : (log : List Batch) (place : ℕ) (b : Batch) → Meet 0 log → BatchStandsAt log place b → b.base ≡ place
base_there log place b m s =
    let rest : Meet (behind 0 s.before) (b ∷ s.after) = meet_after 0 s.before (b ∷ s.after) (subst (Meet 0) s.split m) in
    rest.0 ∙ s.begins

pub at_stands : (log : List Batch) (place : ℕ) (b : Batch) → Meet 0 log → BatchStandsAt log place b → (nat_eq b.base place && list_any (same_batch b) log) ≡ true
at_stands log place b m s =
    joined (nat_eq b.base place) (list_any (same_batch b) log)
    (eq_true b.base place (base_there log place b m s))
    (ap (list_any (same_batch b)) s.split ∙ any_in (same_batch b) s.before b s.after (is_batch b b refl))

-- ---- where one ends

pub record EndsAt (from : ℕ) (log : List Batch) (place : ℕ) : Type 0 where
  pub gone : List Batch
  pub rest : List Batch
  pub split : log ≡ gone ++ rest
  pub ends : behind from gone ≡ place

ends_in : (from : ℕ) (log : List Batch) (place : ℕ) → Meet from log → list_any (λ b. nat_eq (b.base + b.count) place) log ≡ true → EndsAt from log place
ends_in from [] place m t = absurd cc
ends_in from (x ∷ xs) place (at, some, m) t = elim (either (nat_eq (x.base + x.count) place) (list_any (λ b. nat_eq (b.base + b.count) place) xs) t) [
  | inl here ↦ record { gone = x ∷ []; rest = xs; split = refl; ends = ap (λ n. n + x.count) (sym at) ∙ eqb-true (x.base + x.count) place here }
  | inr later ↦ (let r = ends_in (from + x.count) xs place m later in record { gone = x ∷ r.gone; rest = r.rest; split = ap (λ (ys : List Batch). x ∷ ys) r.split; ends = r.ends })
]

pub ends_at : (log : List Batch) (place : ℕ) → Meet 0 log → is_boundary log place ≡ true → EndsAt 0 log place
ends_at log place m t = elim (either (nat_eq 0 place) (list_any (λ b. nat_eq (b.base + b.count) place) log) t) [
  | inl none ↦ record { gone = []; rest = log; split = refl; ends = eqb-true 0 place none }
  | inr some ↦ ends_in 0 log place m some
]

at_ends_from : (from : ℕ) (gone rest : List Batch) (place : ℕ) → Meet from (gone ++ rest) → behind from gone ≡ place
    → (nat_eq from place || list_any (λ b. nat_eq (b.base + b.count) place) (gone ++ rest)) ≡ true
at_ends_from from [] rest place m e = first_of_two (nat_eq from place) (list_any (λ b. nat_eq (b.base + b.count) place) rest) (eq_true from place e)
at_ends_from from (x ∷ gone) rest place (at, some, m) e =
    let list : Bool = list_any (λ b. nat_eq (b.base + b.count) place) (gone ++ rest) in
    second_of_two (nat_eq from place) (nat_eq (x.base + x.count) place || list)
    (elim (either (nat_eq (from + x.count) place) list (at_ends_from (from + x.count) gone rest place m e)) [
      | inl here ↦ first_of_two (nat_eq (x.base + x.count) place) list (ap (λ n. nat_eq (n + x.count) place) at ∙ here)
      | inr later ↦ second_of_two (nat_eq (x.base + x.count) place) list later
    ])

pub at_ends : (gone rest : List Batch) (place : ℕ) → Meet 0 (gone ++ rest) → behind 0 gone ≡ place → is_boundary (gone ++ rest) place ≡ true
at_ends gone rest place m e = at_ends_from 0 gone rest place m e

-- ---- the place behind batches

some_number : (a b : ℕ) → Some a ≡ Some b → a ≡ b
some_number a b e = ap (λ (o : Option ℕ). unwrap_or o a) e

none_behind : {X : Type 0} (place : ℕ) → None ≡ Some place → X
none_behind place e = absurd cc

pub behind_is : (from : ℕ) (bs : List Batch) (place : ℕ) → end_behind from bs ≡ Some place → behind from bs ≡ place
behind_is from [] place e = some_number from place e
behind_is from (b ∷ bs) place e =
    let by : Bool → Option ℕ = λ t. cond t (end_behind (b.base + b.count) bs) None in
    elim (true_or_false (nat_eq b.base from && nat_lt 0 b.count)) [
      | inl is ↦ (let same : b.base ≡ from = eqb-true b.base from (both (nat_eq b.base from) (nat_lt 0 b.count) is).0 in
          ap (λ (n : ℕ). behind (n + b.count) bs) (sym same) ∙ behind_is (b.base + b.count) bs place (sym (ap by is) ∙ e))
      | inr is ↦ none_behind place (sym (ap by is) ∙ e)
    ]

pub is_behind : (from : ℕ) (bs : List Batch) → Meet from bs → end_behind from bs ≡ Some (behind from bs)
is_behind from [] m = refl
is_behind from (b ∷ bs) (at, some, m) =
    ap (λ t. cond t (end_behind (b.base + b.count) bs) None) (joined (nat_eq b.base from) (nat_lt 0 b.count) (eq_true b.base from at) (true_lt 0 b.count some))
    ∙ (ap (λ n. end_behind (n + b.count) bs) at ∙ is_behind (from + b.count) bs m)

-- ---- what a list begins with

pub begins : (list group : List Batch) → begins_with list group ≡ true → list ≡ group ++ drop (length group) list
begins list [] t = refl
begins [] (g ∷ gs) t =
    let low : suc (length gs) ≤ 0 = le_true (length (g ∷ gs)) 0 (both (nat_le (length (g ∷ gs)) 0) (agree [] (g ∷ gs)) t).0 in absurd (omega arith)
begins (x ∷ xs) (g ∷ gs) t =
    let p = both (nat_le (length (g ∷ gs)) (length (x ∷ xs))) (same_batch x g && agree xs gs) t in
    let q = both (same_batch x g) (agree xs gs) p.1 in
    let low : length (g ∷ gs) ≤ length (x ∷ xs) = le_true (length (g ∷ gs)) (length (x ∷ xs)) p.0 in
    let r = begins xs gs (joined (nat_le (length gs) (length xs)) (agree xs gs) (true_le (length gs) (length xs) (omega arith)) q.1) in
    ap (λ (y : Batch). y ∷ xs) (batch_is x g q.0) ∙ ap (λ (ys : List Batch). g ∷ ys) r

agree_more : (group rest : List Batch) → agree (group ++ rest) group ≡ true
agree_more [] [] = refl
agree_more [] (x ∷ xs) = refl
agree_more (g ∷ gs) rest = joined (same_batch g g) (agree (gs ++ rest) gs) (is_batch g g refl) (agree_more gs rest)

longer : (xs ys : List Batch) → length xs ≤ length (xs ++ ys)
longer [] ys = omega arith
longer (x ∷ xs) ys = let h = longer xs ys in omega arith

pub it_begins : (group rest : List Batch) → begins_with (group ++ rest) group ≡ true
it_begins group rest = joined (nat_le (length group) (length (group ++ rest))) (agree (group ++ rest) group) (true_le (length group) (length (group ++ rest)) (longer group rest)) (agree_more group rest)

pub first_is : (list : List Batch) (b : Batch) → is_first list b ≡ true → list ≡ b ∷ drop 1 list
first_is [] b t = absurd cc
first_is (x ∷ xs) b t = ap (λ (y : Batch). y ∷ xs) (batch_is x b t)

pub is_the_first : (list : List Batch) (b : Batch) (rest : List Batch) → list ≡ b ∷ rest → is_first list b ≡ true
is_the_first list b rest e = ap (λ (xs : List Batch). is_first xs b) e ∙ is_batch b b refl
