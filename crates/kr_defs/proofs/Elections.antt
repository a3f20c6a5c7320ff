-- What a leader is, by among whom it was found.
use Rattle.std.proofs.Common.{◌≡◌, sym, refl, subst, ◌⊎◌, inl, inr, Bool, true, false, not, ◌&&◌, ◌||◌, List, [], ◌∷◌, ◌++◌, ℤ, negsuc, append_assoc, Option}
use Rattle.std.proofs.lemmas.Bool.{and_parts, or_left, or_right, cases_Bool}
use Rattle.std.proofs.lemmas.List.{append-nil}
use Rattle.std.specs.Prelude.{filter, map, if◌then◌else◌}
use Rattle.std.specs.Ordering.{int_eq}
use Rattle.kr_defs.specs.declared.partition.Partition.{Partition}
use Rattle.kr_defs.specs.declared.changing.Choice.{Choice}
use Rattle.kr_defs.specs.declared.changing.Choice.TheVariants as choices
use Rattle.kr_defs.specs.declared.changing.Facts.{Facts}
use Rattle.kr_defs.specs.declared.changing.Mode.{Mode}
use Rattle.kr_defs.specs.Ids.{has, is_within}
use Rattle.kr_defs.specs.Elect.{is_unclean_mode, is_restarted, is_sound, is_electable, in_turn, at_last, first_of, elected}
use Rattle.kr_defs.specs.PartitionLaws.{IsChoice, LeadsInSync, LeadsEligible, LeadsUncleanly, ElectionsAreSound, CleanElectionsKeepRecords}
use Rattle.kr_defs.proofs.IdLists.{id_itself, all_at}

-- the first candidate is one of the first list that passes, or the first of the others
pub first_of-kept : (p : ℤ → Bool) (choice : Choice) (ids : List ℤ) (others : List (ℤ × Choice)) (P : ℤ × Choice → Type 0) → ((id : ℤ) → has ids id ≡ true → p id ≡ true → P (id, choice)) → P (first_of others) → P (first_of (map (λ x. (x, choice)) (filter p ids) ++ others))
first_of-kept p choice [] others P passes none = none
first_of-kept p choice (x ∷ ids) others P passes none =
    elim (cases_Bool (p x)) [
      | inl holds ↦ rw holds (passes x (or_left (int_eq x x) (has ids x) (id_itself x)) holds)
      | inr fails ↦ rw fails (first_of-kept p choice ids others P (λ id h. passes id (or_right (int_eq x id) (has ids id) h)) none)
    ]

some_at_last : (b : Bool) (replicas : List ℤ) (id : ℤ) → has (if b then replicas else []) id ≡ true → (b ≡ true) × (has replicas id ≡ true)
some_at_last true replicas id h = (refl, h)
some_at_last false replicas id h = absurd cc

running : (b : Bool) → not b ≡ true → b ≡ false
running true h = cc
running false h = refl

module _ (p : Partition) (replicas in_sync : List ℤ) (mode : Mode) (restarted : Option ℤ) (facts : Facts) where
  -- what is told of a candidate
  abbrev told : ℤ × Choice → Type 0
  told c = IsChoice p replicas in_sync mode restarted facts c.0 c.1

  abbrev pub first : List (ℤ × Choice)
  first = map (λ id. (id, choices.InSync)) (filter (is_sound p replicas in_sync mode restarted facts) (in_turn p replicas in_sync mode restarted facts))

  abbrev pub second : List (ℤ × Choice)
  second = map (λ id. (id, choices.Eligible)) (filter (is_electable p replicas in_sync mode restarted facts) replicas)

  abbrev pub third : List (ℤ × Choice)
  third = map (λ id. (id, choices.Unclean)) (filter (has facts.active) (at_last p replicas in_sync mode restarted facts))

  tell_sound : is_within in_sync replicas ≡ true → (id : ℤ) → is_sound p replicas in_sync mode restarted facts id ≡ true → LeadsInSync replicas in_sync facts id
  tell_sound within id h =
      let parts = and_parts (has in_sync id) (has facts.active id) h in
      record { replica = all_at (has replicas) in_sync id within parts.0; active = parts.1; in_sync_now = parts.0 }

  tell_electable : (id : ℤ) → has replicas id ≡ true → is_electable p replicas in_sync mode restarted facts id ≡ true → LeadsEligible p replicas restarted facts id
  tell_electable id there h =
      let parts = and_parts (has p.eligible id && has facts.active id) (not (is_restarted restarted id)) h in
      let both = and_parts (has p.eligible id) (has facts.active id) parts.0 in
      record { replica = there; active = both.1; eligible = both.0; running = running (is_restarted restarted id) parts.1 }

  tell_unclean : (id : ℤ) → has (at_last p replicas in_sync mode restarted facts) id ≡ true → has facts.active id ≡ true → LeadsUncleanly replicas mode facts id
  tell_unclean id there active =
      let parts = some_at_last (facts.unclean || is_unclean_mode mode) replicas id there in
      record { replica = parts.1; active = active; allowed = parts.0 }

  third_told : told (first_of third)
  third_told =
      let P : List (ℤ × Choice) → Type 0 = λ cs. told (first_of cs) in
      subst P (append-nil third)
      (first_of-kept (has facts.active) choices.Unclean (at_last p replicas in_sync mode restarted facts) [] told tell_unclean refl)

  pub elected_told : is_within in_sync replicas ≡ true → told (elected p replicas in_sync mode restarted facts)
  unfolding elected
  elected_told within =
      let P : List (ℤ × Choice) → Type 0 = λ cs. told (first_of cs) in
      subst P (sym (append_assoc first second third))
      (first_of-kept (is_sound p replicas in_sync mode restarted facts) choices.InSync (in_turn p replicas in_sync mode restarted facts) (second ++ third) told
      (λ id there h. tell_sound within id h)
      (first_of-kept (is_electable p replicas in_sync mode restarted facts) choices.Eligible replicas third told tell_electable third_told))

  -- where no unclean election is allowed
  abbrev kept : ℤ × Choice → Type 0
  kept c = (c.0 ≡ negsuc 0) ⊎ ((has in_sync c.0 || has p.eligible c.0) ≡ true)

  third_kept : facts.unclean || is_unclean_mode mode ≡ false → kept (first_of third)
  third_kept fails = rw fails (inl refl)

  pub elected_kept : facts.unclean || is_unclean_mode mode ≡ false → kept (elected p replicas in_sync mode restarted facts)
  unfolding elected
  elected_kept fails =
      let P : List (ℤ × Choice) → Type 0 = λ cs. kept (first_of cs) in
      subst P (sym (append_assoc first second third))
      (first_of-kept (is_sound p replicas in_sync mode restarted facts) choices.InSync (in_turn p replicas in_sync mode restarted facts) (second ++ third) kept
      (λ id there h. inr (or_left (has in_sync id) (has p.eligible id) (and_parts (has in_sync id) (has facts.active id) h).0))
      (first_of-kept (is_electable p replicas in_sync mode restarted facts) choices.Eligible replicas third kept
      (λ id there h. inr (or_right (has in_sync id) (has p.eligible id) (tell_electable id there h).eligible))
      (third_kept fails)))

pub sound : ElectionsAreSound
sound p replicas in_sync mode restarted facts within = elected_told p replicas in_sync mode restarted facts within

pub clean : CleanElectionsKeepRecords
clean p replicas in_sync mode restarted facts fails = elected_kept p replicas in_sync mode restarted facts fails
