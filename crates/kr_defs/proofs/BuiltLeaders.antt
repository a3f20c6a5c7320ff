-- A leader that is named had the records, and a reassignment that ends has its target in sync.
use Rattle.std.proofs.Common.{◌≡◌, ◌∙◌, sym, refl, subst, inl, inr, Bool, true, false, not, cond, ◌&&◌, ◌||◌, ◌==◌, length, List, [], ◌∷◌, ◌++◌, ℤ, append_assoc, Option}
use Rattle.std.proofs.lemmas.Bool.{and_parts, or_cases, or_left, or_right, cases_Bool}
use Rattle.std.proofs.lemmas.List.Folds.{list_any-append}
use Rattle.std.specs.Prelude.{filter, map, take, IfSome, if◌then◌else◌}
use Rattle.std.specs.Ordering.{int_eq}
use Rattle.kr_defs.specs.declared.partition.Partition.{Partition}
use Rattle.kr_defs.specs.declared.changing.Assignment.{Assignment}
use Rattle.kr_defs.specs.declared.changing.Choice.{Choice}
use Rattle.kr_defs.specs.declared.changing.Choice.TheVariants as choices
use Rattle.kr_defs.specs.declared.changing.Facts.{Facts}
use Rattle.kr_defs.specs.declared.changing.Mode.{Mode}
use Rattle.kr_defs.specs.declared.changing.Want.{Want}
use Rattle.kr_defs.specs.Ids.{has, is_within, without, within}
use Rattle.kr_defs.specs.Partition.{target}
use Rattle.kr_defs.specs.Merge.{merged}
use Rattle.kr_defs.specs.Elect.{is_preferred, is_sound, in_turn, first_of, elected}
use Rattle.kr_defs.specs.Build.{is_target_in_sync, completes, asked, reached, ended, starts_alone, settled, aimed, unless, difference, built}
use Rattle.kr_defs.specs.PartitionLaws.{IsChoice}
use Rattle.kr_defs.specs.BuiltLaws.{IsAmong, BuiltLeadersHadRecords, EndsInSync, ReassignmentsEndInSync}
use Rattle.kr_defs.proofs.IdLists.{same_id, all_at, all_from, has_before, passes_kept, has_kept}
use Rattle.kr_defs.proofs.Elections.{first, second, third, sound, clean}
use Rattle.kr_defs.proofs.Changes.{alone, same_list, replaced, replaced_same, changed_told}

-- ---- leaders

-- who is in sync after a reassignment that may end was said to be in sync
in_sync_before : (want : Want) (id : ℤ) → has (ended (asked want)).in_sync id ≡ true → has want.in_sync id ≡ true
unfolding ended
in_sync_before want id h =
    let a = asked want in
    let asked_for : has a.in_sync id ≡ true → has want.in_sync id ≡ true = λ k. passes_kept (λ x. has want.in_sync x) want.replicas id k in
    elim (completes a.replicas a.adding a.removing a.in_sync) as (λ b. has (cond b (reached a) a).in_sync id ≡ true → has want.in_sync id ≡ true) [
      | true ↦ λ k. asked_for (has_before (λ x. has (without a.replicas a.removing) x) a.in_sync id k)
      | false ↦ λ k. asked_for k
    ] h

among : (xs ys : List ℤ) (p : Partition) (leader : ℤ) → ((id : ℤ) → has xs id ≡ true → has ys id ≡ true) → IsAmong xs p leader → IsAmong ys p leader
among xs ys p leader inside (inl nobody) = inl nobody
among xs ys p leader inside (inr somebody) =
    inr (elim (or_cases (has xs leader) (has p.eligible leader) somebody) [
      | inl k ↦ or_left (has ys leader) (has p.eligible leader) (inside leader k)
      | inr k ↦ or_right (has ys leader) (has p.eligible leader) k
    ])

named : (test : Bool) (leader : ℤ) (P : ℤ → Type 0) → P leader → IfSome (unless test leader) P
named true leader P told = tt
named false leader P told = told

-- a leader that is named is one that the election found
leader_told : (p : Partition) (want : Want) (facts : Facts) (P : ℤ → Type 0) → P (elected p (ended (asked want)).replicas (ended (asked want)).in_sync want.mode want.restarted facts).0 → IfSome (built p want facts) (λ change. IfSome change.leader P)
unfolding built aimed difference
leader_told p want facts P told =
    let before = ended (asked want) in
    let election = elected p before.replicas before.in_sync want.mode want.restarted facts in
    changed_told p (aimed p want facts) (λ change. IfSome change.leader P)
    (named (int_eq p.leader election.0 && is_within p.replicas (aimed p want facts).replicas) election.0 P told)

pub leaders_had_records : BuiltLeadersHadRecords
leaders_had_records p want facts fails =
    let before = ended (asked want) in
    let leader = (elected p before.replicas before.in_sync want.mode want.restarted facts).0 in
    let told : IsAmong want.in_sync p leader = among before.in_sync want.in_sync p leader (in_sync_before want) (clean p before.replicas before.in_sync want.mode want.restarted facts fails) in
    record {
      wanted = leader_told p want facts (IsAmong want.in_sync p) told;
      had = λ inside. leader_told p want facts (IsAmong p.in_sync p) (among want.in_sync p.in_sync p leader (λ id h. all_at (has p.in_sync) want.in_sync id inside h) told);
    }

-- ---- the end of a reassignment

-- a candidate that is in sync comes first
first_in_sync : (p : ℤ → Bool) (ids : List ℤ) (others : List (ℤ × Choice)) (id : ℤ) → has ids id ≡ true → p id ≡ true → (first_of (map (λ x. (x, choices.InSync)) (filter p ids) ++ others)).1 ≡ choices.InSync
first_in_sync p [] others id h passes = absurd cc
first_in_sync p (x ∷ ids) others id h passes =
    elim (cases_Bool (p x)) [
      | inl holds ↦ rw holds refl
      | inr fails ↦ rw fails (elim (or_cases (int_eq x id) (has ids id) h) [
        | inl e ↦ let at_x : p x ≡ true = (let P : ℤ → Type 0 = λ y. p y ≡ true in subst P (sym (same_id x id e)) passes) in absurd cc
        | inr k ↦ first_in_sync p ids others id k passes
      ])
    ]

module _ (p : Partition) (replicas in_sync : List ℤ) (mode : Mode) (restarted : Option ℤ) (facts : Facts) where
  abbrev in_order : List (ℤ × Choice)
  in_order = first p replicas in_sync mode restarted facts

  abbrev eligible_ones : List (ℤ × Choice)
  eligible_ones = second p replicas in_sync mode restarted facts

  abbrev last_ones : List (ℤ × Choice)
  last_ones = third p replicas in_sync mode restarted facts

  abbrev chosen : Choice
  chosen = (elected p replicas in_sync mode restarted facts).1

  -- where each replica is in sync, an active one is found among those in sync
  found_in_sync : is_within replicas in_sync ≡ true → (id : ℤ) → has replicas id ≡ true → has facts.active id ≡ true → chosen ≡ choices.InSync
  unfolding elected
  found_in_sync whole id there active =
      let before = (if is_preferred mode then take 1 replicas else []) in
      let turn : has (in_turn p replicas in_sync mode restarted facts) id ≡ true = list_any-append (λ x. int_eq x id) before (p.leader ∷ replicas) ∙ or_right (has before id) (has (p.leader ∷ replicas) id) (or_right (int_eq p.leader id) (has replicas id) there) in
      let is_found : is_sound p replicas in_sync mode restarted facts id ≡ true = rw (all_at (has in_sync) replicas id whole there, active) refl in
      let P : List (ℤ × Choice) → Type 0 = λ cs. (first_of cs).1 ≡ choices.InSync in
      subst P (sym (append_assoc in_order eligible_ones last_ones)) (first_in_sync (is_sound p replicas in_sync mode restarted facts) (in_turn p replicas in_sync mode restarted facts) (eligible_ones ++ last_ones) id turn is_found)

  not_alone : (leader : ℤ) (choice : Choice) → IsChoice p replicas in_sync mode restarted facts leader choice → ((id : ℤ) → has replicas id ≡ true → has facts.active id ≡ true → choice ≡ choices.InSync) → starts_alone choice ≡ false
  not_alone leader choices.InSync told found = refl
  not_alone leader choices.Eligible told found = let is = found leader told.replica told.active in absurd cc
  not_alone leader choices.Unclean told found = let is = found leader told.replica told.active in absurd cc
  not_alone leader choices.Nobody told found = refl

  stays_whole : is_within in_sync replicas ≡ true → is_within replicas in_sync ≡ true → starts_alone chosen ≡ false
  stays_whole inside whole = not_alone (elected p replicas in_sync mode restarted facts).0 chosen (sound p replicas in_sync mode restarted facts inside) (found_in_sync whole)

-- a reassignment runs
abbrev moves : List ℤ → List ℤ → Bool
moves adding removing = not (length adding == 0) || not (length removing == 0)

module _ (a : Assignment) where
  abbrev goal : List ℤ
  goal = without a.replicas a.removing

  -- a reassignment that is over has its target in sync
  abbrev Ended : Assignment → Type 0
  Ended b = moves b.adding b.removing ≡ false → is_within goal b.in_sync ≡ true

  whole_target : (in_sync : List ℤ) → is_within goal in_sync ≡ true → is_within goal (within in_sync goal) ≡ true
  whole_target in_sync h = all_from (has (within in_sync goal)) goal (λ id k. has_kept (λ x. has goal x) in_sync id (all_at (has in_sync) goal id h k) k)

  module _ (runs : moves a.adding a.removing ≡ true) where
    running_on : (in_sync : List ℤ) → Ended (record a { in_sync = in_sync })
    running_on in_sync none = absurd cc

    alone_ends : (leader : ℤ) → Ended (ended (alone a leader))
    unfolding ended completes
    alone_ends leader =
        elim (cases_Bool (moves a.adding a.removing && is_target_in_sync a.replicas a.removing (leader ∷ []))) [
          | inl holds ↦ rw holds (λ _. whole_target (leader ∷ []) (and_parts (moves a.adding a.removing) (is_target_in_sync a.replicas a.removing (leader ∷ [])) holds).1)
          | inr fails ↦ rw fails (running_on (leader ∷ []))
        ]

    goes_on : (leader : ℤ) (choice : Choice) → Ended (settled a leader choice)
    unfolding settled
    goes_on leader choice =
        elim (starts_alone choice) as (λ b. Ended (if b then ended (alone a leader) else a)) [
          | true ↦ alone_ends leader
          | false ↦ running_on a.in_sync
        ]

    module _ (p : Partition) (mode : Mode) (restarted : Option ℤ) (facts : Facts) where
      abbrev outcome : Assignment → Assignment
      outcome b = let election = elected p b.replicas b.in_sync mode restarted facts in settled b election.0 election.1

      reached_ends : is_within goal a.in_sync ≡ true → Ended (outcome (reached a))
      unfolding settled
      reached_ends whole =
          let in_sync = within a.in_sync goal in
          let all = whole_target a.in_sync whole in
          let inside = all_from (has goal) in_sync (λ id h. passes_kept (λ x. has goal x) a.in_sync id h) in
          rw (stays_whole p goal in_sync mode restarted facts inside all) (λ _. all)

      ends : Ended (outcome (ended a))
      unfolding ended completes
      ends =
          elim (cases_Bool (moves a.adding a.removing && is_target_in_sync a.replicas a.removing a.in_sync)) [
            | inl holds ↦ rw holds (reached_ends (and_parts (moves a.adding a.removing) (is_target_in_sync a.replicas a.removing a.in_sync) holds).1)
            | inr fails ↦ rw fails (goes_on (elected p a.replicas a.in_sync mode restarted facts).0 (elected p a.replicas a.in_sync mode restarted facts).1)
          ]

-- of the lists that differ
merged_ends : (p q : Partition) → (moves q.adding q.removing ≡ false → is_within (target p) q.in_sync ≡ true) → EndsInSync p (merged p (difference p q))
unfolding merged difference
merged_ends p q told =
    rw (same_list p.adding q.adding, same_list p.removing q.removing)
    (elim (cases_Bool (moves q.adding q.removing)) [
      | inl moving ↦ or_left (moves q.adding q.removing) (is_within (target p) (replaced p.in_sync q.in_sync)) moving
      | inr over ↦ or_right (moves q.adding q.removing) (is_within (target p) (replaced p.in_sync q.in_sync))
          (all_from (has (replaced p.in_sync q.in_sync)) (target p) (λ id h. (replaced_same p.in_sync q.in_sync).back id (all_at (has q.in_sync) (target p) id (told over) h)))
    ])

pub end_in_sync : ReassignmentsEndInSync
unfolding built aimed
end_in_sync p want facts own runs =
    let a = asked want in
    let runs_on : moves a.adding a.removing ≡ true = rw (own.adding, own.removing) runs in
    let P : List ℤ → List ℤ → Type 0 = λ r m. moves (aimed p want facts).adding (aimed p want facts).removing ≡ false → is_within (without r m) (aimed p want facts).in_sync ≡ true in
    let told : P p.replicas p.removing = subst (λ r. P r p.removing) own.replicas (subst (λ m. P want.replicas m) own.removing (ends a runs_on p want.mode want.restarted facts)) in
    changed_told p (aimed p want facts) (λ change. EndsInSync p (merged p change)) (merged_ends p (aimed p want facts) told)
