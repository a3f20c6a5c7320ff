-- Entries are dropped one by one, with what only they had.
use Rattle.std.proofs.Common.{◌≡◌, ◌≤◌, List, [], ◌∷◌, ◌++◌, Option, Bool, true, false, cond, not, ℕ, suc, ℤ, ◌+◌, length, filter, refl, sym, ◌∙◌, ap, arith, append_assoc}
use Rattle.std.specs.Prelude.{int_lt, sum_by}
use Rattle.std.specs.List.{AllByRecursion}
use Rattle.std.specs.declared.cmp.Ordering.{Ordering}
use Rattle.std.proofs.lemmas.List.{append-nil}
use Rattle.std.proofs.lemmas.List.Sums.{sum_by-cons, sum_by-append}
use Rattle.kr_defs.specs.KeptMaps.{Kept}
use Rattle.kr_timeline.specs.Chains.{map_of, cut, AreFalling, all_trimmed}
use Rattle.kr_timeline.specs.Intervals.{kept_of, touches, is_first_below, cut_back, DropsLast, settled_at, settled_front, Forgets, ForgetsFirst, AreCounted}
use Rattle.kr_timeline.specs.declared.chain.Trim.TheVariants as trims
use Rattle.kr_timeline.specs.declared.intervals.Interval.{Interval}
use Rattle.kr_timeline.proofs.Trims.{falls_all, falls_back}

-- ---- the steps

module _ {K : Type 0} where
  pub touches_first : (i : Interval K) (intervals : List (Interval K)) → touches (i ∷ intervals) ≡ length i.keys.items + 1 + touches intervals
  touches_first i intervals = sum_by-cons (λ (j : Interval K). length j.keys.items + 1) i intervals

  pub touches-append : (xs ys : List (Interval K)) → touches (xs ++ ys) ≡ touches xs + touches ys
  touches-append xs ys = sum_by-append (λ (j : Interval K). length j.keys.items + 1) xs ys

  pub touches_last : (xs : List (Interval K)) (i : Interval K) → touches (xs ++ i ∷ []) ≡ touches xs + (length i.keys.items + 1)
  touches_last xs i = omega (arith, touches-append xs (i ∷ []), touches_first i [])

-- ---- how many

module _ {K : Type 0} where
  -- the entries, and the calls of each
  abbrev pub weight : List (Interval K) → ℕ
  weight intervals = sum_by (λ (i : Interval K). i.made + 1) intervals

  pub touches_least : (intervals : List (Interval K)) → length intervals ≤ touches intervals
  touches_least [] = omega arith
  touches_least (i ∷ intervals) = let rest : length intervals ≤ touches intervals = touches_least intervals in omega (arith, rest, touches_first i intervals)

  pub touches_most : (intervals : List (Interval K)) → AreCounted intervals → touches intervals ≤ weight intervals
  touches_most [] a = omega arith
  touches_most (i ∷ intervals) a = let rest : touches intervals ≤ weight intervals = touches_most intervals a.1 in let here : length i.keys.items ≤ i.made = a.0 in omega (arith, rest, here, touches_first i intervals, sum_by-cons (λ (j : Interval K). j.made + 1) i intervals)

pub sum_kept : {K V : Type 0} (chains : List (K × List (ℕ × Option V))) (intervals : List (Interval K)) → sum_by (λ (k : Kept K V). k.made + 1) (kept_of chains intervals) ≡ weight intervals
sum_kept chains [] = refl
sum_kept {K} {V} chains (i ∷ intervals) = sum_by-cons (λ (k : Kept K V). k.made + 1) (record { epoch = i.epoch; map = map_of i.number chains; made = i.made }) (kept_of chains intervals) ∙ ap (λ n. i.made + 1 + n) (sum_kept chains intervals) ∙ sym (sum_by-cons (λ (j : Interval K). j.made + 1) i intervals)

pub length-kept : {K V : Type 0} (chains : List (K × List (ℕ × Option V))) (intervals : List (Interval K)) → length (kept_of chains intervals) ≡ length intervals
length-kept chains [] = refl
length-kept chains (i ∷ intervals) = ap (λ n. suc n) (length-kept chains intervals)

module _ {X : Type 0} where
  -- a filter and the one that takes the others
  pub sum_parts : (f : X → ℕ) (test : X → Bool) (xs : List X) → sum_by f (filter test xs) + sum_by f (filter (λ x. not (test x)) xs) ≡ sum_by f xs
  sum_parts f test [] = refl
  sum_parts f test (x ∷ xs) =
      let rest : sum_by f (filter test xs) + sum_by f (filter (λ y. not (test y)) xs) ≡ sum_by f xs = sum_parts f test xs in
      elim (test x) as (λ b. sum_by f (cond b (x ∷ filter test xs) (filter test xs)) + sum_by f (cond (not b) (x ∷ filter (λ y. not (test y)) xs) (filter (λ y. not (test y)) xs)) ≡ sum_by f (x ∷ xs)) [
        | true ↦ omega (arith, rest, sum_by-cons f x (filter test xs), sum_by-cons f x xs)
        | false ↦ omega (arith, rest, sum_by-cons f x (filter (λ y. not (test y)) xs), sum_by-cons f x xs)
      ]

  pub length_parts : (test : X → Bool) (xs : List X) → length (filter test xs) + length (filter (λ x. not (test x)) xs) ≡ length xs
  length_parts test [] = refl
  length_parts test (x ∷ xs) =
      let rest : length (filter test xs) + length (filter (λ y. not (test y)) xs) ≡ length xs = length_parts test xs in
      elim (test x) as (λ b. length (cond b (x ∷ filter test xs) (filter test xs)) + length (cond (not b) (x ∷ filter (λ y. not (test y)) xs) (filter (λ y. not (test y)) xs)) ≡ length (x ∷ xs)) [
        | true ↦ omega (arith, rest)
        | false ↦ omega (arith, rest)
      ]

all_push : {K : Type 0} (P : Interval K → Type 0) (xs : List (Interval K)) (i : Interval K) → AllByRecursion P xs → P i → AllByRecursion P (xs ++ i ∷ [])
all_push P [] i a h = (h, tt)
all_push P (x ∷ xs) i a h = (a.0, all_push P xs i a.1 h)

-- ---- from the last on

module _ {K V : Type 0} where
  back-append : (order : K → K → Ordering) (number : ℕ) (xs ys : List (Interval K)) (es : List (K × List (ℕ × Option V))) → cut_back order number (xs ++ ys) es ≡ cut_back order number xs (cut_back order number ys es)
  back-append order number [] ys es = refl
  back-append order number (i ∷ xs) ys es = ap (all_trimmed order (cut number) i.keys.items) (back-append order number xs ys es)

  pub drops_none : (order : K → K → Ordering) (number : ℕ) (intervals : List (Interval K)) (es : List (K × List (ℕ × Option V))) → DropsLast order number intervals intervals es es
  drops_none order number intervals es = record { dropped = []; is = sym (append-nil intervals); chains = refl }

  pub drops_more : (order : K → K → Ordering) (number : ℕ) (intervals left left' : List (Interval K)) (before mid after : List (K × List (ℕ × Option V))) → DropsLast order number intervals left before mid → DropsLast order number left left' mid after → DropsLast order number intervals left' before after
  drops_more order number intervals left left' before mid after x y = record {
    dropped = y.dropped ++ x.dropped;
    is = x.is ∙ ap (λ (is : List (Interval K)). is ++ x.dropped) y.is ∙ append_assoc left' y.dropped x.dropped;
    chains = y.chains ∙ ap (cut_back order number y.dropped) x.chains ∙ sym (back-append order number y.dropped x.dropped before);
  }

  pub drops_falling : (order : K → K → Ordering) (number : ℕ) (intervals left : List (Interval K)) (before after : List (K × List (ℕ × Option V))) → DropsLast order number intervals left before after → AreFalling before → AreFalling after
  drops_falling order number intervals left before after x a = rw x.chains (falls_back order number x.dropped before a)

  -- ---- from the first on

  front-push : (order : K → K → Ordering) (xs : List (Interval K)) (i : Interval K) (es : List (K × List (ℕ × Option V))) → settled_front order (xs ++ i ∷ []) es ≡ settled_at order i (settled_front order xs es)
  front-push order [] i es = refl
  front-push order (j ∷ xs) i es = front-push order xs i (settled_at order j es)

  pub forgets_none : (order : K → K → Ordering) (epoch : ℤ) (intervals : List (Interval K)) (es : List (K × List (ℕ × Option V))) → Forgets order epoch intervals intervals es es
  forgets_none order epoch intervals es = record { dropped = []; is = refl; low = tt; chains = refl }

  pub forgets_more : (order : K → K → Ordering) (epoch : ℤ) (intervals left left' : List (Interval K)) (before mid after : List (K × List (ℕ × Option V))) → Forgets order epoch intervals left before mid → is_first_below epoch left ≡ true → ForgetsFirst order left left' mid after → Forgets order epoch intervals left' before after
  forgets_more order epoch intervals [] left' before mid after x low y = absurd cc
  forgets_more order epoch intervals (i ∷ left) left' before mid after x low y = rw y.0 (record {
    dropped = x.dropped ++ i ∷ [];
    is = x.is ∙ sym (append_assoc x.dropped (i ∷ []) left);
    low = all_push (λ (j : Interval K). int_lt j.epoch epoch ≡ true) x.dropped i x.low low;
    chains = y.1 ∙ ap (settled_at order i) x.chains ∙ sym (front-push order x.dropped i before);
  })

  pub first_falling : (order : K → K → Ordering) (left left' : List (Interval K)) (mid after : List (K × List (ℕ × Option V))) → ForgetsFirst order left left' mid after → AreFalling mid → AreFalling after
  first_falling order [] left' mid after y a = rw y.1 a
  first_falling order (i ∷ left) left' mid after y a = rw y.1 (falls_all order trims.Below i.number i.keys.items mid a)
