-- A reassignment's lists lead to its target and back to its original.
use Rattle.std.proofs.Common.{◌≡◌, ◌∙◌, sym, ap, refl, inl, inr, Bool, true, false, not, ◌&&◌, ◌||◌, arith, length, List, [], ◌∷◌, ◌++◌, ℤ}
use Rattle.std.proofs.lemmas.Bool.{and_from, or_cases, or_left, or_right, cases_Bool, lt-ltb}
use Rattle.std.proofs.lemmas.List.{append-nil}
use Rattle.std.proofs.lemmas.List.Elements.{filter-append}
use Rattle.std.proofs.lemmas.List.Folds.{list_any-append, list_all-append}
use Rattle.std.specs.List.{list_all}
use Rattle.std.specs.Prelude.{filter, nat_lt, nat_le}
use Rattle.std.specs.Ordering.{int_eq}
use Rattle.kr_defs.specs.Ids.{has, is_distinct, is_within, are_apart, without}
use Rattle.kr_defs.specs.Reassign.{reassigned, added, removed, ReassignmentsLeadBothWays, ReassignmentsAreSensible}
use Rattle.kr_defs.specs.declared.limits.TheConstants.{MOST_REPLICAS}
use Rattle.kr_defs.specs.Partition.{is_natural, is_part, are_replicas, is_reassignment}
use Rattle.kr_defs.proofs.Changes.{Replicas, replicas_parts, replicas_from}
use Rattle.kr_defs.proofs.IdLists.{joined_distinct, all_at, all_from, all_kept, first_member, refutes, refuted, id_itself, has_before, passes_kept, has_kept, distinct_kept}

-- a filter that each passes keeps all, one that none passes keeps none
all_pass : (p : ℤ → Bool) (xs : List ℤ) → ((id : ℤ) → has xs id ≡ true → p id ≡ true) → filter p xs ≡ xs
all_pass p [] each = refl
all_pass p (x ∷ xs) each =
    let first : p x ≡ true = each x (or_left (int_eq x x) (has xs x) (id_itself x)) in
    rw first (ap (λ l. x ∷ l) (all_pass p xs (λ id h. each id (or_right (int_eq x id) (has xs id) h))))

none_passes : (p : ℤ → Bool) (xs : List ℤ) → ((id : ℤ) → has xs id ≡ true → p id ≡ false) → filter p xs ≡ []
none_passes p [] each = refl
none_passes p (x ∷ xs) each =
    let first : p x ≡ false = each x (or_left (int_eq x x) (has xs x) (id_itself x)) in
    rw first (none_passes p xs (λ id h. each id (or_right (int_eq x id) (has xs id) h)))

same_tests : (a b : Bool) → (a ≡ true → b ≡ true) → (b ≡ true → a ≡ true) → a ≡ b
same_tests true b forth back = sym (forth refl)
same_tests false true forth back = back refl
same_tests false false forth back = refl

turned : (b : Bool) → b ≡ true → not b ≡ false
turned b h = rw h refl

module _ (target original : List ℤ) where
  abbrev rest : List ℤ
  rest = without original target

  -- what is removed isn't in the target
  not_in_target : (id : ℤ) → has target id ≡ true → not (has (removed target original) id) ≡ true
  not_in_target id h = refuted (has rest id) (λ k. refutes (has target id) (passes_kept (λ x. not (has target x)) original id k) h)

  to_the_target : without (reassigned target original) (removed target original) ≡ target
  to_the_target =
      let p = λ (id : ℤ). not (has rest id) in
      filter-append p target rest
      ∙ ap (λ l. l ++ filter p rest) (all_pass p target not_in_target)
      ∙ ap (λ l. target ++ l) (none_passes p rest (λ id h. turned (has rest id) h))
      ∙ append-nil target

  in_original : (id : ℤ) → has target id ≡ true → not (has (added target original) id) ≡ true → has original id ≡ true
  in_original id h fails =
      elim (cases_Bool (has original id)) [
        | inl there ↦ there
        | inr absent ↦ absurd (refutes (has (added target original) id) fails
            (has_kept (λ x. not (has original x)) target id h (rw absent refl)))
      ]

  forward : (id : ℤ) → has (without (reassigned target original) (added target original)) id ≡ true → has original id ≡ true
  forward id h =
      let p = λ (x : ℤ). not (has (added target original) x) in
      let there : (has target id || has rest id) ≡ true = sym (list_any-append (λ x. int_eq x id) target rest) ∙ has_before p (reassigned target original) id h in
      elim (or_cases (has target id) (has rest id) there) [
        | inl in_target ↦ in_original id in_target (passes_kept p (reassigned target original) id h)
        | inr in_rest ↦ has_before (λ x. not (has target x)) original id in_rest
      ]

  backward : (id : ℤ) → has original id ≡ true → has (without (reassigned target original) (added target original)) id ≡ true
  backward id h =
      let p = λ (x : ℤ). not (has (added target original) x) in
      let passes : not (has (added target original) id) ≡ true = refuted (has (added target original) id) (λ k. refutes (has original id) (passes_kept (λ x. not (has original x)) target id k) h) in
      let there : (has target id || has rest id) ≡ true = (elim (cases_Bool (has target id)) [
        | inl in_target ↦ or_left (has target id) (has rest id) in_target
        | inr outside ↦ or_right (has target id) (has rest id) (has_kept (λ x. not (has target x)) original id h (rw outside refl))
      ]) in
      has_kept p (reassigned target original) id (list_any-append (λ x. int_eq x id) target rest ∙ there) passes

pub both_ways : ReassignmentsLeadBothWays
both_ways target original = record {
  to_target = to_the_target target original;
  from_original = λ id. same_tests (has (without (reassigned target original) (added target original)) id) (has original id) (forward target original id) (backward target original id);
  distinct = λ first second. joined_distinct target (without original target) first (distinct_kept (λ x. not (has target x)) original second) (not_in_target target original);
}

some_joined : (xs ys : List ℤ) → nat_lt 0 (length xs) ≡ true → nat_lt 0 (length (xs ++ ys)) ≡ true
some_joined [] ys h = absurd cc
some_joined (x ∷ xs) ys h = lt-ltb 0 (length (x ∷ (xs ++ ys))) (omega arith)

module _ (target original : List ℤ) (wanted : Replicas MOST_REPLICAS target) (were : Replicas MOST_REPLICAS original) where
  abbrev all : List ℤ
  all = reassigned target original

  abbrev joining : List ℤ
  joining = added target original

  abbrev leaving : List ℤ
  leaving = removed target original

  in_all : (id : ℤ) → (has target id || has leaving id) ≡ true → has all id ≡ true
  in_all id h = list_any-append (λ x. int_eq x id) target leaving ∙ h

  joining_part : is_part joining all ≡ true
  joining_part =
      and_from (is_distinct joining) (is_within joining all)
      (distinct_kept (λ x. not (has original x)) target wanted.distinct)
      (all_from (has all) joining (λ id h. in_all id (or_left (has target id) (has leaving id) (has_before (λ x. not (has original x)) target id h))))

  leaving_part : is_part leaving all ≡ true
  leaving_part =
      and_from (is_distinct leaving) (is_within leaving all)
      (distinct_kept (λ x. not (has target x)) original were.distinct)
      (all_from (has all) leaving (λ id h. in_all id (or_right (has target id) (has leaving id) h)))

  separate : are_apart joining leaving ≡ true
  separate = all_from (λ id. not (has leaving id)) joining (λ id h. not_in_target target original id (has_before (λ x. not (has original x)) target id h))

  some_were : not (is_within all joining) ≡ true
  some_were =
      let first = first_member original were.some in
      let there = backward target original first.0 first.1 in
      let p = λ (x : ℤ). not (has joining x) in
      refuted (is_within all joining) (λ w. refutes (has joining first.0) (passes_kept p all first.0 there) (all_at (has joining) all first.0 w (has_before p all first.0 there)))

  some_stay : not (is_within all leaving) ≡ true
  some_stay =
      let first = first_member target wanted.some in
      refuted (is_within all leaving) (λ w. refutes (has leaving first.0) (not_in_target target original first.0 first.1)
      (all_at (has leaving) all first.0 w (in_all first.0 (or_left (has target first.0) (has leaving first.0) first.1))))

  all_distinct : is_distinct all ≡ true
  all_distinct = joined_distinct target leaving wanted.distinct (distinct_kept (λ x. not (has target x)) original were.distinct) (not_in_target target original)

  all_natural : list_all is_natural all ≡ true
  all_natural = list_all-append is_natural target leaving ∙ and_from (list_all is_natural target) (list_all is_natural leaving) wanted.natural (all_kept (λ x. not (has target x)) is_natural original were.natural)

  lists_lead : is_reassignment all joining leaving ≡ true
  lists_lead =
      and_from (is_part joining all && is_part leaving all && are_apart joining leaving && not (is_within all joining)) (not (is_within all leaving))
      (and_from (is_part joining all && is_part leaving all && are_apart joining leaving) (not (is_within all joining))
      (and_from (is_part joining all && is_part leaving all) (are_apart joining leaving)
      (and_from (is_part joining all) (is_part leaving all) joining_part leaving_part) separate)
      some_were)
      some_stay

  lists_sensible : nat_le (length all) MOST_REPLICAS ≡ true → (are_replicas all && is_reassignment all joining leaving) ≡ true
  lists_sensible few =
      and_from (are_replicas all) (is_reassignment all joining leaving)
      (replicas_from all (record { some = some_joined target leaving wanted.some; few = few; distinct = all_distinct; natural = all_natural }))
      lists_lead

  lists_at_length : (nat_lt 0 (length all) && is_distinct all && list_all is_natural all && is_reassignment all joining leaving) ≡ true
  lists_at_length =
      and_from (nat_lt 0 (length all) && is_distinct all && list_all is_natural all) (is_reassignment all joining leaving)
      (and_from (nat_lt 0 (length all) && is_distinct all) (list_all is_natural all)
      (and_from (nat_lt 0 (length all)) (is_distinct all) (some_joined target leaving wanted.some) all_distinct) all_natural)
      lists_lead

pub sensible : ReassignmentsAreSensible
sensible target original wanted were few = lists_sensible target original (replicas_parts target wanted) (replicas_parts original were) few

-- but for how many there are, whatever the two lists are
pub sensible_at_length : (target original : List ℤ) → are_replicas target ≡ true → are_replicas original ≡ true
    → (nat_lt 0 (length (reassigned target original)) && is_distinct (reassigned target original) && list_all is_natural (reassigned target original) && is_reassignment (reassigned target original) (added target original) (removed target original)) ≡ true
sensible_at_length target original wanted were = lists_at_length target original (replicas_parts target wanted) (replicas_parts original were)
