-- A line that has no fault is one that the laws allow, and each such line has none.
use Rattle.std.proofs.Common.{◌≡◌, ◌∙◌, sym, ℕ, ◌+◌, ◌<◌, ◌≤◌, Bool, true, false, cond, List, [], ◌∷◌, ◌++◌, refl, ap, subst, arith, inl, inr, ◌⊎◌, map, reverse}
use Rattle.std.proofs.lemmas.Bool.{eqb-true}
use Rattle.std.specs.Prelude.{◌&&◌, ◌||◌, not, length, drop, Option, None, Some, find, is_some, nat_eq}
use Rattle.law_quorum.specs.Batches.{behind}
use Rattle.law_quorum.specs.History.{Leadership}
use Rattle.law_quorum.proofs.KeptLog.{both}
use Rattle.law_link.specs.Links.{Held, TookLeadership, leadership_at}
use Rattle.law_tape.specs.Rules.{TakenLeadership, holds_leadership, is_number, is_taken_by, took}
use Rattle.std.specs.Option.{option_map_or, unwrap_or}
use Rattle.law_tape.proofs.EqualityLemmas.{eq_true, held_is, is_held, joined, true_or_false}
use Rattle.law_tape.proofs.Standing.{taken_of}
use Rattle.law_tape.specs.declared.fault.Fault.{Fault}

-- ---- a row of tests

pub passes : (fault : Fault) (test : Bool) (rest : Option Fault) → cond test (Some fault) rest ≡ None → (test ≡ false) × (rest ≡ None)
passes fault true rest e = absurd cc
passes fault false rest e = (refl, e)

pub goes_on : (fault : Fault) (test : Bool) (rest : Option Fault) → test ≡ false → rest ≡ None → cond test (Some fault) rest ≡ None
goes_on fault true rest t e = absurd cc
goes_on fault false rest t e = e

pub is_none : {X : Type 0} (o : Option X) → is_some o ≡ false → o ≡ None
is_none None e = refl
is_none (Some x) e = absurd cc

pub none_is : {X : Type 0} (o : Option X) → o ≡ None → is_some o ≡ false
none_is None e = refl
none_is (Some x) e = absurd cc

pub number_is : (o : Option ℕ) (n : ℕ) → is_number o n ≡ true → o ≡ Some n
number_is None n e = absurd cc
number_is (Some m) n e = ap Some (eqb-true m n e)

pub is_the_number : (o : Option ℕ) (n : ℕ) → o ≡ Some n → is_number o n ≡ true
is_the_number o n e = ap (λ o'. is_number o' n) e ∙ eq_true n n refl

pub holds_it : (o : Option Held) (h : Held) → holds_leadership o h ≡ true → o ≡ Some h
holds_it None h e = absurd cc
holds_it (Some x) h e = ap Some (held_is x h e)

pub it_holds : (o : Option Held) (h : Held) → o ≡ Some h → holds_leadership o h ≡ true
it_holds o h e = ap (λ o'. holds_leadership o' h) e ∙ is_held h h refl

-- ---- leaderships that were taken

some_is : (a b : Leadership) → Some a ≡ Some b → a ≡ b
some_is a b e = ap (λ (o : Option Leadership). unwrap_or o a) e

none_took : {X : Type 0} (l : Leadership) → None ≡ Some l → X
none_took l e = absurd cc

module _ (k : ℕ) (h : Held) where
  abbrev is_its : TakenLeadership → Bool
  is_its l = nat_eq l.epoch h.epoch

  abbrev found_at : Bool → Leadership → List Leadership → Bool
  found_at t l ls = option_map_or (is_taken_by k h) (cond t (Some (taken_of l)) (find is_its (map taken_of ls))) false

  abbrev is_it : Leadership → Bool
  is_it l = is_taken_by k h (taken_of l)

  its_parts : (l : Leadership) → is_it l ≡ true → (l.node ≡ k) × (l.made ≡ h.made) × (behind 0 l.start ≡ h.start)
  its_parts l is =
      let p = both (nat_eq l.node k && nat_eq l.made h.made) (nat_eq (behind 0 l.start) h.start) is in
      let q = both (nat_eq l.node k) (nat_eq l.made h.made) p.0 in
      (eqb-true l.node k q.0, eqb-true l.made h.made q.1, eqb-true (behind 0 l.start) h.start p.1)

  parts_its : (l : Leadership) → l.node ≡ k → l.made ≡ h.made → behind 0 l.start ≡ h.start → is_it l ≡ true
  parts_its l node made start =
      joined (nat_eq l.node k && nat_eq l.made h.made) (nat_eq (behind 0 l.start) h.start)
      (joined (nat_eq l.node k) (nat_eq l.made h.made) (eq_true l.node k node) (eq_true l.made h.made made)) (eq_true (behind 0 l.start) h.start start)

  -- where the first is of the epoch, and where it isn't
  took_first : (l : Leadership) (ls : List Leadership) → nat_eq l.epoch h.epoch ≡ true → is_it l ≡ true → TookLeadership (l ∷ ls) k h
  took_first l ls is his =
      let p = its_parts l his in
      record { leadership = l; found = ap (λ x. cond x (Some l) (leadership_at h.epoch ls)) is; holder = p.0; key = p.1; began = p.2 }

  took_later : (l : Leadership) (ls : List Leadership) → nat_eq l.epoch h.epoch ≡ false → TookLeadership ls k h → TookLeadership (l ∷ ls) k h
  took_later l ls is r =
      record { leadership = r.leadership; found = ap (λ x. cond x (Some l) (leadership_at h.epoch ls)) is ∙ r.found; holder = r.holder; key = r.key; began = r.began }

  first_took : (l : Leadership) (ls : List Leadership) → nat_eq l.epoch h.epoch ≡ true → TookLeadership (l ∷ ls) k h → is_it l ≡ true
  first_took l ls is t =
      let same : l ≡ t.leadership = some_is l t.leadership (sym (ap (λ x. cond x (Some l) (leadership_at h.epoch ls)) is) ∙ t.found) in
      parts_its l (ap (λ (x : Leadership). x.node) same ∙ t.holder) (ap (λ (x : Leadership). x.made) same ∙ t.key) (ap (λ (x : Leadership). behind 0 x.start) same ∙ t.began)

  later_took : (l : Leadership) (ls : List Leadership) → nat_eq l.epoch h.epoch ≡ false → TookLeadership (l ∷ ls) k h → TookLeadership ls k h
  later_took l ls is t =
      record { leadership = t.leadership; found = sym (ap (λ x. cond x (Some l) (leadership_at h.epoch ls)) is) ∙ t.found; holder = t.holder; key = t.key; began = t.began }

  pub took_it : (ls : List Leadership) → took (map taken_of ls) k h ≡ true → TookLeadership ls k h
  took_it [] e = absurd cc
  took_it (l ∷ ls) e = elim (true_or_false (nat_eq l.epoch h.epoch)) [
    | inl is ↦ took_first l ls is (sym (ap (λ x. found_at x l ls) is) ∙ e)
    | inr is ↦ took_later l ls is (took_it ls (sym (ap (λ x. found_at x l ls) is) ∙ e))
  ]

  pub it_took : (ls : List Leadership) → TookLeadership ls k h → took (map taken_of ls) k h ≡ true
  it_took [] t = none_took t.leadership t.found
  it_took (l ∷ ls) t = elim (true_or_false (nat_eq l.epoch h.epoch)) [
    | inl is ↦ ap (λ x. found_at x l ls) is ∙ first_took l ls is t
    | inr is ↦ ap (λ x. found_at x l ls) is ∙ it_took ls (later_took l ls is t)
  ]
