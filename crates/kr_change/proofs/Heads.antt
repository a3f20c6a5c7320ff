-- The first candidate of joined lists.
use Rattle.std.proofs.Common.{◌≡◌, Bool, true, false, cond, List, [], ◌∷◌, ◌++◌, ℤ, Option, Some, None, negsuc, append_assoc, refl, sym, ◌∙◌, ap}
use Rattle.std.proofs.lemmas.List.{append-nil}
use Rattle.kr_defs.specs.declared.changing.Choice.TheVariants as choices
use Rattle.std.specs.Prelude.{filter, find, map}
use Rattle.kr_defs.specs.declared.changing.Choice.{Choice}
use Rattle.kr_defs.specs.declared.partition.Partition.{Partition}
use Rattle.kr_defs.specs.Ids.{has}
use Rattle.kr_defs.specs.declared.changing.Mode.{Mode}
use Rattle.kr_defs.specs.declared.changing.Facts.{Facts}
use Rattle.kr_defs.specs.Elect.{first_of, is_sound, is_electable, in_turn, at_last, elected}

-- nobody among the first passes, nor does the leader
pub find-later : (p : ℤ → Bool) (first : List ℤ) (leader : ℤ) (replicas : List ℤ) → find p first ≡ None → p leader ≡ false → find p (first ++ leader ∷ replicas) ≡ find p replicas
find-later p [] leader replicas none fails = rw fails refl
find-later p (x ∷ first) leader replicas none fails =
    elim (p x) as (λ b. cond b (Some x) (find p first) ≡ None → cond b (Some x) (find p (first ++ leader ∷ replicas)) ≡ find p replicas) [
      | true ↦ λ e. absurd cc
      | false ↦ λ e. find-later p first leader replicas e fails
    ] none

pub find-leader : (p : ℤ → Bool) (first : List ℤ) (leader : ℤ) (replicas : List ℤ) → find p first ≡ None → p leader ≡ true → find p (first ++ leader ∷ replicas) ≡ Some leader
find-leader p [] leader replicas none passes = rw passes refl
find-leader p (x ∷ first) leader replicas none passes =
    elim (p x) as (λ b. cond b (Some x) (find p first) ≡ None → cond b (Some x) (find p (first ++ leader ∷ replicas)) ≡ Some leader) [
      | true ↦ λ e. absurd cc
      | false ↦ λ e. find-leader p first leader replicas e passes
    ] none

pub find-first : (p : ℤ → Bool) (first more : List ℤ) (id : ℤ) → find p first ≡ Some id → find p (first ++ more) ≡ Some id
find-first p [] more id found = absurd cc
find-first p (x ∷ first) more id found =
    elim (p x) as (λ b. cond b (Some x) (find p first) ≡ Some id → cond b (Some x) (find p (first ++ more)) ≡ Some id) [
      | true ↦ λ e. e
      | false ↦ λ e. find-first p first more id e
    ] found

-- the first that passes is the first candidate
pub first_of-found : (p : ℤ → Bool) (choice : Choice) (ids : List ℤ) (others : List (ℤ × Choice)) (id : ℤ) → find p ids ≡ Some id → first_of (map (λ x. (x, choice)) (filter p ids) ++ others) ≡ (id, choice)
first_of-found p choice [] others id found = absurd cc
first_of-found p choice (x ∷ ids) others id found =
    elim (p x) as (λ b. cond b (Some x) (find p ids) ≡ Some id → first_of (map (λ x. (x, choice)) (cond b (x ∷ filter p ids) (filter p ids)) ++ others) ≡ (id, choice)) [
      | true ↦ λ e. let same : x ≡ id = cc in ap (λ (y : ℤ). (y, choice)) same
      | false ↦ λ e. first_of-found p choice ids others id e
    ] found

pub first_of-none : (p : ℤ → Bool) (choice : Choice) (ids : List ℤ) (others : List (ℤ × Choice)) → find p ids ≡ None → first_of (map (λ x. (x, choice)) (filter p ids) ++ others) ≡ first_of others
first_of-none p choice [] others none = refl
first_of-none p choice (x ∷ ids) others none =
    elim (p x) as (λ b. cond b (Some x) (find p ids) ≡ None → first_of (map (λ x. (x, choice)) (cond b (x ∷ filter p ids) (filter p ids)) ++ others) ≡ first_of others) [
      | true ↦ λ e. absurd cc
      | false ↦ λ e. first_of-none p choice ids others e
    ] none

module _ (p q r : ℤ → Bool) (a b c : Choice) (xs ys zs : List ℤ) where
  abbrev first : List (ℤ × Choice)
  first = map (λ x. (x, a)) (filter p xs)

  abbrev second : List (ℤ × Choice)
  second = map (λ x. (x, b)) (filter q ys)

  abbrev third : List (ℤ × Choice)
  third = map (λ x. (x, c)) (filter r zs)

  abbrev pub joined : List (ℤ × Choice)
  joined = map (λ x. (x, a)) (filter p xs) ++ map (λ x. (x, b)) (filter q ys) ++ map (λ x. (x, c)) (filter r zs)

  regrouped : first_of joined ≡ first_of (first ++ (second ++ third))
  regrouped = ap first_of (append_assoc first second third)

  past_first : find p xs ≡ None → first_of joined ≡ first_of (second ++ third)
  past_first none = regrouped ∙ first_of-none p a xs (second ++ third) none

  past_second : find p xs ≡ None → find q ys ≡ None → first_of joined ≡ first_of (third ++ [])
  past_second none none' = past_first none ∙ first_of-none q b ys third none' ∙ ap first_of (sym (append-nil third))

  pub first_of-first : (id : ℤ) → find p xs ≡ Some id → (id, a) ≡ first_of joined
  first_of-first id found = sym (regrouped ∙ first_of-found p a xs (second ++ third) id found)

  pub first_of-second : (id : ℤ) → find p xs ≡ None → find q ys ≡ Some id → (id, b) ≡ first_of joined
  first_of-second id none found = sym (past_first none ∙ first_of-found q b ys third id found)

  pub first_of-third : (id : ℤ) → find p xs ≡ None → find q ys ≡ None → find r zs ≡ Some id → (id, c) ≡ first_of joined
  first_of-third id none none' found = sym (past_second none none' ∙ first_of-found r c zs [] id found)

  pub first_of-nobody : find p xs ≡ None → find q ys ≡ None → find r zs ≡ None → (negsuc 0, choices.Nobody) ≡ first_of joined
  first_of-nobody none none' none'' = sym (past_second none none' ∙ first_of-none r c zs [] none'')

module _ (p : Partition) (replicas in_sync : List ℤ) (mode : Mode) (restarted : Option ℤ) (facts : Facts) where
  pub elected_in_sync : (id : ℤ) → Some id ≡ find (is_sound p replicas in_sync mode restarted facts) (in_turn p replicas in_sync mode restarted facts) → (id, choices.InSync) ≡ elected p replicas in_sync mode restarted facts
  unfolding elected
  elected_in_sync id found = first_of-first (is_sound p replicas in_sync mode restarted facts) (is_electable p replicas in_sync mode restarted facts) (has facts.active) choices.InSync choices.Eligible choices.Unclean (in_turn p replicas in_sync mode restarted facts) replicas (at_last p replicas in_sync mode restarted facts) id (sym found)

  pub elected_eligible : (id : ℤ) → None ≡ find (is_sound p replicas in_sync mode restarted facts) (in_turn p replicas in_sync mode restarted facts) → Some id ≡ find (is_electable p replicas in_sync mode restarted facts) replicas → (id, choices.Eligible) ≡ elected p replicas in_sync mode restarted facts
  unfolding elected
  elected_eligible id none found = first_of-second (is_sound p replicas in_sync mode restarted facts) (is_electable p replicas in_sync mode restarted facts) (has facts.active) choices.InSync choices.Eligible choices.Unclean (in_turn p replicas in_sync mode restarted facts) replicas (at_last p replicas in_sync mode restarted facts) id (sym none) (sym found)

  pub elected_unclean : (id : ℤ) → None ≡ find (is_sound p replicas in_sync mode restarted facts) (in_turn p replicas in_sync mode restarted facts) → None ≡ find (is_electable p replicas in_sync mode restarted facts) replicas → Some id ≡ find (has facts.active) (at_last p replicas in_sync mode restarted facts) → (id, choices.Unclean) ≡ elected p replicas in_sync mode restarted facts
  unfolding elected
  elected_unclean id none none' found = first_of-third (is_sound p replicas in_sync mode restarted facts) (is_electable p replicas in_sync mode restarted facts) (has facts.active) choices.InSync choices.Eligible choices.Unclean (in_turn p replicas in_sync mode restarted facts) replicas (at_last p replicas in_sync mode restarted facts) id (sym none) (sym none') (sym found)

  pub elected_nobody : None ≡ find (is_sound p replicas in_sync mode restarted facts) (in_turn p replicas in_sync mode restarted facts) → None ≡ find (is_electable p replicas in_sync mode restarted facts) replicas → None ≡ find (has facts.active) (at_last p replicas in_sync mode restarted facts) → (negsuc 0, choices.Nobody) ≡ elected p replicas in_sync mode restarted facts
  unfolding elected
  elected_nobody none none' none'' = first_of-nobody (is_sound p replicas in_sync mode restarted facts) (is_electable p replicas in_sync mode restarted facts) (has facts.active) choices.InSync choices.Eligible choices.Unclean (in_turn p replicas in_sync mode restarted facts) replicas (at_last p replicas in_sync mode restarted facts) (sym none) (sym none') (sym none'')

pub ruleset heads = (find-later, find-leader, find-first, elected_in_sync, elected_eligible, elected_unclean, elected_nobody)
