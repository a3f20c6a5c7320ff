-- What is asked where nothing is named, and partitions that are created or emptied.
use Rattle.std.proofs.Common.{◌≡◌, refl, inl, inr, ◌⊎◌, true, ◌&&◌, ◌==◌, ℕ, suc, ◌+◌, arith, length, List, [], ◌∷◌, ℤ, negsuc}
use Rattle.std.proofs.lemmas.Bool.{and_parts, and_from, or_left, or_right, cases_Bool, le-leb, leb-false}
use Rattle.std.proofs.lemmas.Bool.Decides.{nat_tests}
use Rattle.std.proofs.lemmas.Option.{IfSome_then}
use Rattle.std.specs.Prelude.{IsTrue, unwrap_or, nat_lt, nat_le}
use Rattle.std.specs.List.{list_all}
use Rattle.std.specs.Ordering.{int_eq}
use Rattle.kr_defs.specs.declared.partition.Partition.{Partition}
use Rattle.kr_defs.specs.declared.changing.Want.{Want}
use Rattle.kr_defs.specs.declared.limits.TheConstants.{MOST_REPLICAS}
use Rattle.kr_defs.specs.Ids.{has, is_distinct, is_within, within}
use Rattle.kr_defs.specs.Partition.{is_natural, is_part, are_replicas, is_reassignment, is_leader, is_recovery, is_well_formed}
use Rattle.kr_defs.specs.Merge.{merged}
use Rattle.kr_defs.specs.Build.{unless, built}
use Rattle.kr_defs.specs.NewPartition.{first_leader, new_partition, emptying}
use Rattle.kr_defs.specs.BuiltLaws.{DefaultWantsAreSensible, is_sensible_at_length, has_too_many, LongListsAreTheOnlyFault, NewPartitionsAreWellFormed, EmptyingKeeps}
use Rattle.kr_defs.proofs.IdLists.{id_itself}
use Rattle.kr_defs.proofs.EligibleLists.{nobody, kept_part}
use Rattle.kr_defs.proofs.Changes.{replicas_parts, replicas_from, Sensible, Formed, formed_parts, formed_from, none_runs, next_epochs, built_formed}

pub defaults_sensible : DefaultWantsAreSensible
defaults_sensible p formed =
    let f = formed_parts p formed in
    and_from (are_replicas p.replicas && is_reassignment p.replicas p.adding p.removing) (is_recovery p.recovery)
    (and_from (are_replicas p.replicas) (is_reassignment p.replicas p.adding p.removing) (replicas_from p.replicas f.replicas) f.reassignment)
    f.recovers

first_leads : (in_sync : List ℤ) → is_leader (first_leader in_sync) in_sync ≡ true
first_leads [] = refl
first_leads (id ∷ ids) = or_right (int_eq id (negsuc 0)) (has (id ∷ ids) id) (or_left (int_eq id id) (has ids id) (id_itself id))

module _ (replicas : List ℤ) (wanted : are_replicas replicas ≡ true) where
  new_formed : (in_sync : List ℤ) → is_part in_sync replicas ≡ true → is_well_formed (new_partition replicas in_sync) ≡ true
  new_formed in_sync part =
      let r = replicas_parts replicas wanted in
      let parts = and_parts (is_distinct in_sync) (is_within in_sync replicas) part in
      formed_from (new_partition replicas in_sync) (record {
        replicas = r;
        reassignment = none_runs replicas r.some;
        distinct = parts.0;
        inside = parts.1;
        stand = nobody replicas in_sync;
        leads = first_leads in_sync;
        recovers = refl;
        epochs = refl;
      })

  pub new_well_formed : NewPartitionsAreWellFormed replicas
  new_well_formed = record {
    some = new_formed;
    active = λ active. new_formed (within replicas active) (kept_part (λ id. has active id) replicas (replicas_parts replicas wanted).distinct);
  }

some_at_all : (n : ℕ) → (suc n == 0) ≡ true → ⊥
some_at_all n h = grind (arith, nat_tests)

none_at_zero : (ids : List ℤ) → (length ids == 0) ≡ true → ids ≡ []
none_at_zero [] h = refl
none_at_zero (id ∷ ids) h = absurd (some_at_all (length ids) h)

emptied : (ids : List ℤ) → unwrap_or (unless (length ids == 0) []) ids ≡ []
emptied ids =
    elim (cases_Bool (length ids == 0)) [
      | inl none ↦ rw none (none_at_zero ids none)
      | inr some ↦ rw some refl
    ]

emptied_formed : (p : Partition) → is_well_formed p ≡ true → is_well_formed (merged p (emptying p)) ≡ true
unfolding merged
emptied_formed p formed =
    let f = formed_parts p formed in
    let epochs = next_epochs p (emptying p) f.epochs in
    formed_from (merged p (emptying p)) (record {
      replicas = f.replicas;
      reassignment = f.reassignment;
      distinct = f.distinct;
      inside = f.inside;
      stand = rw (emptied p.eligible, emptied p.last_known) (nobody p.replicas p.in_sync);
      leads = f.leads;
      recovers = f.recovers;
      epochs = epochs;
    })

pub emptying_keeps : (p : Partition) → EmptyingKeeps p
unfolding merged
emptying_keeps p = record {
  eligible = emptied p.eligible;
  last_known = emptied p.last_known;
  well_formed = emptied_formed p;
}

-- what is asked has at most as many replicas as it has
long_sensible : (want : Want) → is_sensible_at_length want ≡ true → Sensible (length want.replicas) want
long_sensible want h =
    let first = nat_lt 0 (length want.replicas) in
    let second = is_distinct want.replicas in
    let third = list_all is_natural want.replicas in
    let fourth = is_reassignment want.replicas want.adding want.removing in
    let a = and_parts (first && second && third && fourth) (is_recovery want.recovery) h in
    let b = and_parts (first && second && third) fourth a.0 in
    let c = and_parts (first && second) third b.0 in
    let d = and_parts first second c.0 in
    record {
      replicas = record { some = d.0; few = le-leb (length want.replicas) (length want.replicas) (omega arith); distinct = d.1; natural = c.1 };
      reassignment = b.1;
      recovery = a.1;
    }

long_or_formed : (most : ℕ) (p : Partition) → Formed most p → (has_too_many p ≡ true) ⊎ (is_well_formed p ≡ true)
long_or_formed most p f =
    elim (cases_Bool (nat_le (length p.replicas) MOST_REPLICAS)) [
      | inl few ↦
          let r = f.replicas in
          inr (formed_from p (record {
            replicas = record { some = r.some; few = few; distinct = r.distinct; natural = r.natural };
            reassignment = f.reassignment;
            distinct = f.distinct;
            inside = f.inside;
            stand = f.stand;
            leads = f.leads;
            recovers = f.recovers;
            epochs = f.epochs;
          }))
      | inr many ↦ inl (let more = leb-false (length p.replicas) MOST_REPLICAS many in le-leb (MOST_REPLICAS + 1) (length p.replicas) (omega arith))
    ]

pub long_lists : LongListsAreTheOnlyFault
long_lists p want facts formed sensible =
    IfSome_then (built p want facts) {P = λ change. Formed (length want.replicas) (merged p change)} {Q = λ change. IsTrue (has_too_many (merged p change)) ⊎ IsTrue (is_well_formed (merged p change))}
    (built_formed (length want.replicas) p want facts formed (long_sensible want sensible))
    (λ change f. long_or_formed (length want.replicas) (merged p change) f)
