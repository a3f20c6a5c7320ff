-- The eligible and the last known replicas are replicas, none is both, and none is in sync.
use Rattle.std.proofs.Common.{◌≡◌, refl, Bool, true, false, not, ◌&&◌, ◌||◌, cond, List, [], ℤ, Option}
use Rattle.std.proofs.lemmas.Bool.{and_parts, and_from}
use Rattle.std.specs.Prelude.{filter}
use Rattle.kr_defs.specs.declared.partition.Partition.{Partition}
use Rattle.kr_defs.specs.Ids.{has, is_distinct, is_within, are_apart}
use Rattle.kr_defs.specs.Partition.{is_part}
use Rattle.kr_defs.specs.Elect.{is_restarted}
use Rattle.kr_defs.specs.Eligible.{is_enough, stays_eligible, was_known, is_last_known, eligible_now, last_known_now, eligible_after}
use Rattle.kr_defs.specs.PartitionLaws.{StandBy, EligibleStandBy}
use Rattle.kr_defs.proofs.IdLists.{refutes, refuted, all_from, has_before, passes_kept, distinct_kept, apart_none}

-- what a filter keeps is a part
pub kept_part : (p : ℤ → Bool) (ids : List ℤ) → is_distinct ids ≡ true → is_part (filter p ids) ids ≡ true
kept_part p ids distinct =
    and_from (is_distinct (filter p ids)) (is_within (filter p ids) ids) (distinct_kept p ids distinct)
    (all_from (has ids) (filter p ids) (λ id h. has_before p ids id h))

-- a filter that passes none of these
pub kept_apart : (p : ℤ → Bool) (ids those : List ℤ) → ((id : ℤ) → p id ≡ true → not (has those id) ≡ true) → are_apart those (filter p ids) ≡ true
kept_apart p ids those behind =
    all_from (λ id. not (has (filter p ids) id)) those (λ id there. refuted (has (filter p ids) id)
    (λ h. refutes (has those id) (behind id (passes_kept p ids id h)) there))

pub nobody : (replicas in_sync : List ℤ) → StandBy replicas in_sync [] []
nobody replicas in_sync = record {
  eligible_part = refl;
  last_known_part = refl;
  eligible_behind = apart_none in_sync;
  last_known_behind = apart_none in_sync;
  separate = refl;
}

module _ (p : Partition) (replicas in_sync : List ℤ) (restarted : Option ℤ) where
  abbrev eligible : List ℤ
  eligible = eligible_now p replicas in_sync restarted

  abbrev last_known : List ℤ
  last_known = last_known_now p replicas in_sync eligible

  eligible_not_in_sync : (id : ℤ) → stays_eligible p in_sync restarted id ≡ true → not (has in_sync id) ≡ true
  eligible_not_in_sync id h =
      let parts = and_parts ((has p.in_sync id || has p.eligible id) && not (has in_sync id)) (not (is_restarted restarted id)) h in
      (and_parts (has p.in_sync id || has p.eligible id) (not (has in_sync id)) parts.0).1

  last_known_not : (id : ℤ) → is_last_known p in_sync eligible id ≡ true → (not (has in_sync id) ≡ true) × (not (has eligible id) ≡ true)
  last_known_not id h =
      let parts = and_parts (was_known p id && not (has in_sync id)) (not (has eligible id)) h in
      ((and_parts (was_known p id) (not (has in_sync id)) parts.0).1, parts.1)

  pub somebody : is_distinct replicas ≡ true → StandBy replicas in_sync eligible last_known
  somebody distinct = record {
    eligible_part = kept_part (λ id. stays_eligible p in_sync restarted id) replicas distinct;
    last_known_part = kept_part (λ id. is_last_known p in_sync eligible id) replicas distinct;
    eligible_behind = kept_apart (λ id. stays_eligible p in_sync restarted id) replicas in_sync eligible_not_in_sync;
    last_known_behind = kept_apart (λ id. is_last_known p in_sync eligible id) replicas in_sync (λ id h. (last_known_not id h).0);
    separate = kept_apart (λ id. is_last_known p in_sync eligible id) replicas eligible (λ id h. (last_known_not id h).1);
  }

pub stand_by : EligibleStandBy
unfolding eligible_after
stand_by p replicas in_sync minimum restarted distinct =
    elim (is_enough replicas in_sync minimum) as (λ b. let lists = cond {A = List ℤ × List ℤ} b ([], []) (eligible_now p replicas in_sync restarted, last_known_now p replicas in_sync (eligible_now p replicas in_sync restarted)) in StandBy replicas in_sync lists.0 lists.1) [
      | true ↦ nobody replicas in_sync
      | false ↦ somebody p replicas in_sync restarted distinct
    ]
