-- Batches that meet, and the keys under which they stand.
use Rattle.std.proofs.Common.{◌≡◌, ◌∙◌, sym, ℕ, ◌+◌, ◌<◌, ◌≤◌, Bool, true, false, cond, List, [], ◌∷◌, ◌++◌, refl, ap, subst, arith}
use Rattle.std.proofs.lemmas.List.{append_assoc, append-nil}
use Rattle.std.proofs.lemmas.Bool.{eqb-true}
use Rattle.std.proofs.lemmas.Bool.Decides.{nat_tests}
use Rattle.std.specs.Prelude.{Option, None, Some, nat_eq, nat_lt}
use Rattle.std.specs.Option.{unwrap_or}
use Rattle.std.specs.List.{AllByRecursion}
use Rattle.law_quorum.specs.Batches.{Batch, Meet, BatchStandsAt, behind}
use Rattle.law_quorum.specs.Changes.{delete_below, put_batch, put_batches}

pub behind_append : (from : ℕ) (xs ys : List Batch) → behind from (xs ++ ys) ≡ behind (behind from xs) ys
behind_append from [] ys = refl
behind_append from (x ∷ xs) ys = behind_append (from + x.count) xs ys

pub meet_append : (from : ℕ) (xs ys : List Batch) → Meet from xs → Meet (behind from xs) ys → Meet from (xs ++ ys)
meet_append from [] ys m n = n
meet_append from (x ∷ xs) ys (at, some, m) n = (at, some, meet_append (from + x.count) xs ys m n)

pub meet_before : (from : ℕ) (xs ys : List Batch) → Meet from (xs ++ ys) → Meet from xs
meet_before from [] ys m = tt
meet_before from (x ∷ xs) ys (at, some, m) = (at, some, meet_before (from + x.count) xs ys m)

pub meet_after : (from : ℕ) (xs ys : List Batch) → Meet from (xs ++ ys) → Meet (behind from xs) ys
meet_after from [] ys m = m
meet_after from (x ∷ xs) ys (at, some, m) = meet_after (from + x.count) xs ys m

pub behind_grows : (from : ℕ) (xs : List Batch) → Meet from xs → from ≤ behind from xs
behind_grows from [] m = omega arith
behind_grows from (x ∷ xs) (at, some, m) =
    let h : from + x.count ≤ behind (from + x.count) xs = behind_grows (from + x.count) xs m in omega arith

some_same : (a b : Batch) → Some a ≡ Some b → a ≡ b
some_same a b e = ap (λ o. unwrap_or o a) e

-- ---- what is put

put_elsewhere : (b : Batch) (places : ℕ → Option Batch) (q : ℕ) → q < b.base → put_batch b places q ≡ places q
put_elsewhere b places q low =
    let t : nat_eq b.base q ≡ false = grind (arith, nat_tests) in
    ap (λ x. cond x (Some b) (places q)) t

put_here : (b : Batch) (places : ℕ → Option Batch) → put_batch b places b.base ≡ Some b
put_here b places =
    let t : nat_eq b.base b.base ≡ true = grind (arith, nat_tests) in
    ap (λ x. cond x (Some b) (places b.base)) t

pub put_behind : (from : ℕ) (bs : List Batch) (places : ℕ → Option Batch) (q : ℕ) → Meet from bs → q < from → put_batches bs places q ≡ places q
put_behind from [] places q m low = refl
put_behind from (b ∷ bs) places q (at, some, m) low =
    put_behind (from + b.count) bs (put_batch b places) q m (omega arith) ∙ put_elsewhere b places q (omega arith)

pub all_put : (from : ℕ) (bs : List Batch) (places : ℕ → Option Batch) → Meet from bs → AllByRecursion (λ b. put_batches bs places b.base ≡ Some b) bs
all_put from [] places m = tt
all_put from (b ∷ bs) places (at, some, m) = (
  put_behind (from + b.count) bs (put_batch b places) b.base m (omega arith) ∙ put_here b places,
  all_put (from + b.count) bs (put_batch b places) m,
)

-- those below stay
pub stand_still : (low from : ℕ) (kept bs : List Batch) (places : ℕ → Option Batch)
    → Meet low kept → behind low kept ≤ from → Meet from bs
    → AllByRecursion (λ b. places b.base ≡ Some b) kept → AllByRecursion (λ b. put_batches bs places b.base ≡ Some b) kept
stand_still low from [] bs places k below m stand = tt
stand_still low from (b ∷ kept) bs places (at, some, k) below m (here, stand) =
    let h : low + b.count ≤ behind (low + b.count) kept = behind_grows (low + b.count) kept k in
    (put_behind from bs places b.base m (omega arith) ∙ here, stand_still (low + b.count) from kept bs places k below m stand)

pub all_append : {X : Type 0} (P : X → Type 0) (xs ys : List X) → AllByRecursion P xs → AllByRecursion P ys → AllByRecursion P (xs ++ ys)
all_append P [] ys a b = b
all_append P (x ∷ xs) ys (h, a) b = (h, all_append P xs ys a b)

pub all_after : {X : Type 0} (P : X → Type 0) (xs ys : List X) → AllByRecursion P (xs ++ ys) → AllByRecursion P ys
all_after P [] ys a = a
all_after P (x ∷ xs) ys (h, a) = all_after P xs ys a

-- ---- what is known of each place

abbrev pub AreKnown : (ℕ → Option Batch) → List Batch → Type 0
AreKnown places log = (place : ℕ) (b : Batch) → places place ≡ Some b → BatchStandsAt log place b

pub stands_later : (log more : List Batch) (q : ℕ) (b : Batch) → BatchStandsAt log q b → BatchStandsAt (log ++ more) q b
stands_later log more q b s = record {
  before = s.before;
  after = s.after ++ more;
  split = ap (λ l. l ++ more) s.split ∙ append_assoc s.before (b ∷ s.after) more;
  begins = s.begins;
}

put_known : (log : List Batch) (b : Batch) (places : ℕ → Option Batch) → b.base ≡ behind 0 log → AreKnown places log → AreKnown (put_batch b places) (log ++ b ∷ [])
put_known log b places at known q c is = by (nat_eq b.base q) refl
  where
    by : (t : Bool) → nat_eq b.base q ≡ t → BatchStandsAt (log ++ b ∷ []) q c
    by true e = record {
      before = log;
      after = [];
      split = ap (λ x. log ++ x ∷ []) (some_same b c (sym (ap (λ x. cond x (Some b) (places q)) e) ∙ is));
      begins = sym at ∙ eqb-true b.base q e;
    }
    by false e = stands_later log (b ∷ []) q c (known q c (sym (ap (λ x. cond x (Some b) (places q)) e) ∙ is))

pub all_known : (bs log : List Batch) (places : ℕ → Option Batch) → Meet (behind 0 log) bs → AreKnown places log → AreKnown (put_batches bs places) (log ++ bs)
all_known [] log places m known = subst (AreKnown places) (sym (append-nil log)) known
all_known (b ∷ bs) log places (at, some, m) known =
    let here : behind 0 (log ++ b ∷ []) ≡ behind 0 log + b.count = behind_append 0 log (b ∷ []) in
    subst (AreKnown (put_batches (b ∷ bs) places)) (append_assoc log (b ∷ []) bs)
    (all_known bs (log ++ b ∷ []) (put_batch b places) (subst (λ n. Meet n bs) (sym here) m) (put_known log b places at known))

-- ---- what is deleted

not_deleted : (offset q : ℕ) (places : ℕ → Option Batch) → offset ≤ q → delete_below offset places q ≡ places q
not_deleted offset q places high =
    let t : nat_lt q offset ≡ false = grind (arith, nat_tests) in
    ap (λ x. cond x None (places q)) t

pub stand_above : (offset low : ℕ) (kept : List Batch) (places : ℕ → Option Batch) → offset ≤ low → Meet low kept
    → AllByRecursion (λ b. places b.base ≡ Some b) kept → AllByRecursion (λ b. delete_below offset places b.base ≡ Some b) kept
stand_above offset low [] places high m stand = tt
stand_above offset low (b ∷ kept) places high (at, some, m) (here, stand) =
    (not_deleted offset b.base places (omega arith) ∙ here, stand_above offset (low + b.count) kept places (omega arith) m stand)

pub deleted_known : (offset : ℕ) (log : List Batch) (places : ℕ → Option Batch) → AreKnown places log → AreKnown (delete_below offset places) log
deleted_known offset log places known q b is = by (nat_lt q offset) refl
  where
    by : (t : Bool) → nat_lt q offset ≡ t → BatchStandsAt log q b
    by true e = (let no : None ≡ Some b = sym (ap (λ x. cond x None (places q)) e) ∙ is in absurd cc)
    by false e = known q b (sym (ap (λ x. cond x None (places q)) e) ∙ is)

-- ---- two beginnings of one log

empty_or_same : (from : ℕ) (b : Batch) (xs : List Batch) → 0 < b.count → Meet (from + b.count) xs → behind from (b ∷ xs) ≡ from → ⊥
empty_or_same from b xs some m e =
    let h : from + b.count ≤ behind (from + b.count) xs = behind_grows (from + b.count) xs m in omega arith

-- those that end at one place are the same, and so is what is behind them
pub same_beginning : (from : ℕ) (xs a ys b : List Batch) → Meet from (xs ++ a) → xs ++ a ≡ ys ++ b → behind from xs ≡ behind from ys → (xs ≡ ys) × (a ≡ b)
same_beginning from [] a [] b m e at = (refl, e)
same_beginning from [] a (y ∷ ys) b m e at =
    let n : Meet from ((y ∷ ys) ++ b) = subst (Meet from) e m in
    absurd (empty_or_same from y ys n.1 (meet_before (from + y.count) ys b n.2) (sym at))
same_beginning from (x ∷ xs) a [] b m e at =
    absurd (empty_or_same from x xs m.1 (meet_before (from + x.count) xs a m.2) at)
same_beginning from (x ∷ xs) a (y ∷ ys) b m e at =
    let here : x ≡ y = cc in
    let rest : xs ++ a ≡ ys ++ b = cc in
    let there : behind (from + x.count) xs ≡ behind (from + x.count) ys = at ∙ ap (λ (z : Batch). behind (from + z.count) ys) (sym here) in
    let r = same_beginning (from + x.count) xs a ys b m.2 rest there in
    (ap (λ z. z ∷ xs) here ∙ ap (λ zs. y ∷ zs) r.0, r.1)
