-- A partition stays well formed under the change that is built for it.
use Rattle.std.proofs.Common.{◌≡◌, sym, refl, subst, inl, inr, Bool, true, false, not, cond, ◌&&◌, ◌||◌, ◌==◌, ℕ, ◌+◌, arith, length, List, [], ◌∷◌, ℤ, pos, negsuc, Option, Some, None}
use Rattle.std.proofs.lemmas.Bool.{and_parts, and_from, or_cases, or_left, or_right, cases_Bool, le-ltb, not_from_false}
use Rattle.std.proofs.lemmas.Option.{IfSome_then}
use Rattle.std.specs.Prelude.{IsTrue, IfSome, unwrap_or, is_some, nat_lt, nat_le, int_lt, ◌+ℤ◌}
use Rattle.std.specs.List.{list_all}
use Rattle.std.specs.Ordering.{int_eq}
use Rattle.std.specs.Cmp.{signed_Decides}
use Rattle.std.specs.Cmp.Rules.{signed_items}
use Rattle.std.specs.Cmp.Lexicographic.{pointwise}
use Rattle.kr_defs.specs.declared.partition.Partition.{Partition}
use Rattle.kr_defs.specs.declared.partition.PartitionChange.{PartitionChange}
use Rattle.kr_defs.specs.declared.changing.Assignment.{Assignment}
use Rattle.kr_defs.specs.declared.changing.Choice.{Choice}
use Rattle.kr_defs.specs.declared.changing.Choice.TheVariants as choices
use Rattle.kr_defs.specs.declared.changing.Facts.{Facts}
use Rattle.kr_defs.specs.declared.changing.Want.{Want}
use Rattle.kr_defs.specs.declared.limits.TheConstants.{MOST_REPLICAS}
use Rattle.kr_defs.specs.Ids.{has, is_distinct, is_within, are_apart, without, within}
use Rattle.kr_defs.specs.Partition.{is_natural, is_part, are_replicas, is_reassignment, are_parts, is_leader, is_recovery, has_epochs, is_well_formed}
use Rattle.kr_defs.specs.Merge.{next_epoch, merged}
use Rattle.kr_defs.specs.Elect.{elected}
use Rattle.kr_defs.specs.Eligible.{eligible_after}
use Rattle.kr_defs.specs.Build.{is_sensible, is_target_in_sync, completes, asked, reached, ended, is_unclean_choice, settled, standing_by, recovery_after, aimed, unless, same_members, difference, is_blank, change_between, built}
use Rattle.kr_defs.specs.PartitionLaws.{IsChoice, StandBy, BuiltChangesKeepPartitions}
use Rattle.kr_defs.proofs.IdLists.{AreSame, all_at, all_from, has_before, passes_kept, has_kept, distinct_kept, all_kept, few_kept, some_left, first_member, not_within_none, has_only, id_itself, within_same, apart_same}
use Rattle.kr_defs.proofs.EligibleLists.{nobody, stand_by}
use Rattle.kr_defs.proofs.Elections.{sound}

-- replica lists up to a length, part by part
pub record Replicas (most : ℕ) (ids : List ℤ) : Type 0 where
  pub some : nat_lt 0 (length ids) ≡ true
  pub few : nat_le (length ids) most ≡ true
  pub distinct : is_distinct ids ≡ true
  pub natural : list_all is_natural ids ≡ true

pub replicas_parts : (ids : List ℤ) → are_replicas ids ≡ true → Replicas MOST_REPLICAS ids
replicas_parts ids h =
    let a = and_parts (nat_lt 0 (length ids) && nat_le (length ids) MOST_REPLICAS && is_distinct ids) (list_all is_natural ids) h in
    let b = and_parts (nat_lt 0 (length ids) && nat_le (length ids) MOST_REPLICAS) (is_distinct ids) a.0 in
    let c = and_parts (nat_lt 0 (length ids)) (nat_le (length ids) MOST_REPLICAS) b.0 in
    record { some = c.0; few = c.1; distinct = b.1; natural = a.1 }

pub replicas_from : (ids : List ℤ) → Replicas MOST_REPLICAS ids → are_replicas ids ≡ true
replicas_from ids r =
    and_from (nat_lt 0 (length ids) && nat_le (length ids) MOST_REPLICAS && is_distinct ids) (list_all is_natural ids)
    (and_from (nat_lt 0 (length ids) && nat_le (length ids) MOST_REPLICAS) (is_distinct ids)
    (and_from (nat_lt 0 (length ids)) (nat_le (length ids) MOST_REPLICAS) r.some r.few) r.distinct) r.natural

some_stays : (replicas adding removing : List ℤ) → is_reassignment replicas adding removing ≡ true → not (is_within replicas removing) ≡ true
some_stays replicas adding removing h =
    (and_parts (is_part adding replicas && is_part removing replicas && are_apart adding removing && not (is_within replicas adding)) (not (is_within replicas removing)) h).1

pub none_runs : (replicas : List ℤ) → nat_lt 0 (length replicas) ≡ true → is_reassignment replicas [] [] ≡ true
none_runs replicas some =
    and_from (not (is_within replicas [])) (not (is_within replicas [])) (not_within_none replicas some) (not_within_none replicas some)

-- lists that meet the rules
record Sound (most : ℕ) (a : Assignment) : Type 0 where
  replicas : Replicas most a.replicas
  reassignment : is_reassignment a.replicas a.adding a.removing ≡ true
  distinct : is_distinct a.in_sync ≡ true
  inside : is_within a.in_sync a.replicas ≡ true

-- what is asked is sensible, but for the limit on the replicas
pub record Sensible (most : ℕ) (want : Want) : Type 0 where
  pub replicas : Replicas most want.replicas
  pub reassignment : is_reassignment want.replicas want.adding want.removing ≡ true
  pub recovery : is_recovery want.recovery ≡ true

sensible_parts : (want : Want) → is_sensible want ≡ true → Sensible MOST_REPLICAS want
sensible_parts want h =
    let a = and_parts (are_replicas want.replicas && is_reassignment want.replicas want.adding want.removing) (is_recovery want.recovery) h in
    let b = and_parts (are_replicas want.replicas) (is_reassignment want.replicas want.adding want.removing) a.0 in
    record { replicas = replicas_parts want.replicas b.0; reassignment = b.1; recovery = a.1 }

asked_sound : (most : ℕ) (want : Want) → Sensible most want → Sound most (asked want)
asked_sound most want s =
    record {
      replicas = s.replicas;
      reassignment = s.reassignment;
      distinct = distinct_kept (λ id. has want.in_sync id) want.replicas s.replicas.distinct;
      inside = all_from (has want.replicas) (within want.replicas want.in_sync) (λ id k. has_before (λ id. has want.in_sync id) want.replicas id k);
    }

reached_sound : (most : ℕ) (a : Assignment) → Sound most a → Sound most (reached a)
reached_sound most a s =
    let r = s.replicas in
    let left = λ (id : ℤ). not (has a.removing id) in
    let target = without a.replicas a.removing in
    let some : nat_lt 0 (length (without a.replicas a.removing)) ≡ true = some_left a.replicas a.removing (some_stays a.replicas a.adding a.removing s.reassignment) in
    record {
      replicas = record {
        some = some;
        few = few_kept left a.replicas most r.few;
        distinct = distinct_kept left a.replicas r.distinct;
        natural = all_kept left is_natural a.replicas r.natural;
      };
      reassignment = none_runs (without a.replicas a.removing) some;
      distinct = distinct_kept (λ id. has target id) a.in_sync s.distinct;
      inside = all_from (has target) (within a.in_sync target) (λ id h. passes_kept (λ id. has target id) a.in_sync id h);
    }

ended_sound : (most : ℕ) (a : Assignment) → Sound most a → Sound most (ended a)
unfolding ended
ended_sound most a s =
    elim (completes a.replicas a.adding a.removing a.in_sync) as (λ b. Sound most (cond b (reached a) a)) [
      | true ↦ reached_sound most a s
      | false ↦ s
    ]

-- the lists with this leader alone in sync
abbrev pub alone : Assignment → ℤ → Assignment
alone a leader = record a { in_sync = leader ∷ [] }

alone_sound : (most : ℕ) (a : Assignment) (leader : ℤ) → Sound most a → has a.replicas leader ≡ true → Sound most (alone a leader)
alone_sound most a leader s there = record {
  replicas = s.replicas;
  reassignment = s.reassignment;
  distinct = refl;
  inside = and_from (has a.replicas leader) true there refl;
}

-- the leader is among the lists in sync after the end as well
leader_reached : (most : ℕ) (a : Assignment) (leader : ℤ) → Sound most a → is_target_in_sync a.replicas a.removing (leader ∷ []) ≡ true → has (reached (alone a leader)).in_sync leader ≡ true
leader_reached most a leader s h =
    let some = some_left a.replicas a.removing (some_stays a.replicas a.adding a.removing s.reassignment) in
    let first = first_member (without a.replicas a.removing) some in
    let only : leader ≡ first.0 = has_only leader first.0 (all_at (has (leader ∷ [])) (without a.replicas a.removing) first.0 h first.1) in
    let P : ℤ → Type 0 = λ id. has (without a.replicas a.removing) id ≡ true in
    let there : has (without a.replicas a.removing) leader ≡ true = subst P (sym only) first.1 in
    has_kept (λ id. has (without a.replicas a.removing) id) (leader ∷ []) leader (or_left (int_eq leader leader) false (id_itself leader)) there

leader_ended : (most : ℕ) (a : Assignment) (leader : ℤ) → Sound most a → has (ended (alone a leader)).in_sync leader ≡ true
unfolding ended completes
leader_ended most a leader s =
    elim (cases_Bool ((not (length a.adding == 0) || not (length a.removing == 0)) && is_target_in_sync a.replicas a.removing (leader ∷ []))) [
      | inl holds ↦ rw holds (leader_reached most a leader s (and_parts (not (length a.adding == 0) || not (length a.removing == 0)) (is_target_in_sync a.replicas a.removing (leader ∷ [])) holds).1)
      | inr fails ↦ rw fails (or_left (int_eq leader leader) false (id_itself leader))
    ]

-- the lists after an election, and their leader
record Led (most : ℕ) (a : Assignment) (leader : ℤ) : Type 0 where
  lists : Sound most a
  leads : is_leader leader a.in_sync ≡ true

settled_led : (most : ℕ) (p : Partition) (want : Want) (facts : Facts) (a : Assignment) (leader : ℤ) (choice : Choice) → Sound most a → IsChoice p a.replicas a.in_sync want.mode want.restarted facts leader choice → Led most (settled a leader choice) leader
unfolding settled
settled_led most p want facts a leader choices.InSync s told = record {
  lists = s;
  leads = or_right (int_eq leader (negsuc 0)) (has a.in_sync leader) told.in_sync_now;
}
settled_led most p want facts a leader choices.Eligible s told = record {
  lists = ended_sound most (alone a leader) (alone_sound most a leader s told.replica);
  leads = or_right (int_eq leader (negsuc 0)) (has (ended (alone a leader)).in_sync leader) (leader_ended most a leader s);
}
settled_led most p want facts a leader choices.Unclean s told = record {
  lists = ended_sound most (alone a leader) (alone_sound most a leader s told.replica);
  leads = or_right (int_eq leader (negsuc 0)) (has (ended (alone a leader)).in_sync leader) (leader_ended most a leader s);
}
settled_led most p want facts a leader choices.Nobody s told = record {
  lists = s;
  leads = or_left (int_eq leader (negsuc 0)) (has a.in_sync leader) ((signed_Decides leader (negsuc 0)).1 told);
}

standing : (most : ℕ) (p : Partition) (a : Assignment) (choice : Choice) (minimum : ℤ) (restarted : Option ℤ) → Sound most a → StandBy a.replicas a.in_sync (standing_by p a choice minimum restarted).0 (standing_by p a choice minimum restarted).1
unfolding standing_by
standing most p a choice minimum restarted s =
    elim (is_unclean_choice choice) as (λ b. let lists = cond {A = List ℤ × List ℤ} b ([], []) (eligible_after p a.replicas a.in_sync minimum restarted) in StandBy a.replicas a.in_sync lists.0 lists.1) [
      | true ↦ nobody a.replicas a.in_sync
      | false ↦ stand_by p a.replicas a.in_sync minimum restarted s.replicas.distinct
    ]

recovery_stays : (choice : Choice) (recovery : ℤ) → is_recovery recovery ≡ true → is_recovery (recovery_after choice recovery) ≡ true
recovery_stays choice recovery h =
    elim (is_unclean_choice choice) as (λ b. is_recovery (cond b (pos 1) recovery) ≡ true) [ true ↦ refl | false ↦ h ]

-- a well formed partition, rule by rule, but for the limit on its replicas
pub record Formed (most : ℕ) (p : Partition) : Type 0 where
  pub replicas : Replicas most p.replicas
  pub reassignment : is_reassignment p.replicas p.adding p.removing ≡ true
  pub distinct : is_distinct p.in_sync ≡ true
  pub inside : is_within p.in_sync p.replicas ≡ true
  pub stand : StandBy p.replicas p.in_sync p.eligible p.last_known
  pub leads : is_leader p.leader p.in_sync ≡ true
  pub recovers : is_recovery p.recovery ≡ true
  pub epochs : has_epochs p ≡ true

aimed_formed : (most : ℕ) (p : Partition) (want : Want) (facts : Facts) → has_epochs p ≡ true → Sensible most want → Formed most (aimed p want facts)
unfolding aimed
aimed_formed most p want facts epochs s =
    let before = ended (asked want) in
    let start : Sound most before = ended_sound most (asked want) (asked_sound most want s) in
    let election = elected p before.replicas before.in_sync want.mode want.restarted facts in
    let led = settled_led most p want facts before election.0 election.1 start (sound p before.replicas before.in_sync want.mode want.restarted facts start.inside) in
    let after = settled before election.0 election.1 in
    record {
      replicas = led.lists.replicas;
      reassignment = led.lists.reassignment;
      distinct = led.lists.distinct;
      inside = led.lists.inside;
      stand = standing most p after election.1 facts.minimum want.restarted led.lists;
      leads = led.leads;
      recovers = recovery_stays election.1 want.recovery s.recovery;
      epochs = epochs;
    }

parts_from : (p : Partition) → Formed MOST_REPLICAS p → are_parts p.replicas p.in_sync p.eligible p.last_known ≡ true
parts_from p f =
    let first = is_part p.in_sync p.replicas in
    let second = is_part p.eligible p.replicas in
    let third = is_part p.last_known p.replicas in
    let fourth = are_apart p.in_sync p.eligible in
    let fifth = are_apart p.in_sync p.last_known in
    let sixth = are_apart p.eligible p.last_known in
    and_from (first && second && third && fourth && fifth) sixth
    (and_from (first && second && third && fourth) fifth
    (and_from (first && second && third) fourth
    (and_from (first && second) third
    (and_from first second (and_from (is_distinct p.in_sync) (is_within p.in_sync p.replicas) f.distinct f.inside) f.stand.eligible_part)
    f.stand.last_known_part)
    f.stand.eligible_behind)
    f.stand.last_known_behind)
    f.stand.separate

pub formed_from : (p : Partition) → Formed MOST_REPLICAS p → is_well_formed p ≡ true
unfolding is_well_formed
formed_from p f =
    let first = are_replicas p.replicas in
    let second = is_reassignment p.replicas p.adding p.removing in
    let third = are_parts p.replicas p.in_sync p.eligible p.last_known in
    let fourth = is_leader p.leader p.in_sync in
    let fifth = is_recovery p.recovery in
    and_from (first && second && third && fourth && fifth) (has_epochs p)
    (and_from (first && second && third && fourth) fifth
    (and_from (first && second && third) fourth
    (and_from (first && second) third
    (and_from first second (replicas_from p.replicas f.replicas) f.reassignment)
    (parts_from p f))
    f.leads)
    f.recovers)
    f.epochs

pub formed_parts : (p : Partition) → is_well_formed p ≡ true → Formed MOST_REPLICAS p
unfolding is_well_formed
formed_parts p h =
    let first = are_replicas p.replicas in
    let second = is_reassignment p.replicas p.adding p.removing in
    let third = are_parts p.replicas p.in_sync p.eligible p.last_known in
    let a = and_parts (first && second && third && is_leader p.leader p.in_sync && is_recovery p.recovery) (has_epochs p) h in
    let b = and_parts (first && second && third && is_leader p.leader p.in_sync) (is_recovery p.recovery) a.0 in
    let c = and_parts (first && second && third) (is_leader p.leader p.in_sync) b.0 in
    let d = and_parts (first && second) third c.0 in
    let e = and_parts first second d.0 in
    let one = is_part p.in_sync p.replicas in
    let two = is_part p.eligible p.replicas in
    let three = is_part p.last_known p.replicas in
    let f = and_parts (one && two && three && are_apart p.in_sync p.eligible && are_apart p.in_sync p.last_known) (are_apart p.eligible p.last_known) d.1 in
    let g = and_parts (one && two && three && are_apart p.in_sync p.eligible) (are_apart p.in_sync p.last_known) f.0 in
    let i = and_parts (one && two && three) (are_apart p.in_sync p.eligible) g.0 in
    let j = and_parts (one && two) three i.0 in
    let k = and_parts one two j.0 in
    let l = and_parts (is_distinct p.in_sync) (is_within p.in_sync p.replicas) k.0 in
    record {
      replicas = replicas_parts p.replicas e.0;
      reassignment = e.1;
      distinct = l.0;
      inside = l.1;
      stand = record { eligible_part = k.1; last_known_part = j.1; eligible_behind = i.1; last_known_behind = g.1; separate = f.1 };
      leads = c.1;
      recovers = b.1;
      epochs = a.1;
    }

-- a list that replaces another where it differs
pub same_list : (old new : List ℤ) → unwrap_or (unless (pointwise int_eq old new) new) old ≡ new
same_list old new =
    elim (cases_Bool (pointwise int_eq old new)) [
      | inl holds ↦ rw holds ((signed_items old new).0 holds)
      | inr fails ↦ rw fails refl
    ]

same_number : (old new : ℤ) → unwrap_or (unless (int_eq old new) new) old ≡ new
same_number old new =
    elim (cases_Bool (int_eq old new)) [
      | inl holds ↦ rw holds ((signed_Decides old new).0 holds)
      | inr fails ↦ rw fails refl
    ]

same_leader : (old new : ℤ) (b : Bool) → unwrap_or (unless (int_eq old new && b) new) old ≡ new
same_leader old new b =
    elim (cases_Bool (int_eq old new && b)) [
      | inl holds ↦ rw holds ((signed_Decides old new).0 (and_parts (int_eq old new) b holds).0)
      | inr fails ↦ rw fails refl
    ]

-- one that replaces another where the members differ
abbrev pub replaced : List ℤ → List ℤ → List ℤ
replaced old new = unwrap_or (unless (same_members old new) new) old

pub replaced_same : (old new : List ℤ) → AreSame (replaced old new) new
replaced_same old new =
    elim (cases_Bool (same_members old new)) [
      | inl holds ↦
          let parts = and_parts (is_within old new) (is_within new old) holds in
          rw holds (record { forth = λ id h. all_at (has new) old id parts.0 h; back = λ id h. all_at (has old) new id parts.1 h })
      | inr fails ↦ rw fails (record { forth = λ id h. h; back = λ id h. h })
    ]

replaced_distinct : (old new : List ℤ) → is_distinct old ≡ true → is_distinct new ≡ true → is_distinct (replaced old new) ≡ true
replaced_distinct old new first second =
    elim (same_members old new) as (λ b. is_distinct (unwrap_or (unless b new) old) ≡ true) [ true ↦ first | false ↦ second ]

-- a part that replaces another is a part
replaced_part : (old new replicas : List ℤ) → is_distinct old ≡ true → is_part new replicas ≡ true → is_part (replaced old new) replicas ≡ true
replaced_part old new replicas distinct part =
    let parts = and_parts (is_distinct new) (is_within new replicas) part in
    and_from (is_distinct (replaced old new)) (is_within (replaced old new) replicas)
    (replaced_distinct old new distinct parts.0)
    (within_same (replaced old new) new replicas (replaced_same old new) parts.1)

leader_same : (leader : ℤ) (old new : List ℤ) → is_leader leader new ≡ true → is_leader leader (replaced old new) ≡ true
leader_same leader old new h =
    elim (or_cases (int_eq leader (negsuc 0)) (has new leader) h) [
      | inl e ↦ or_left (int_eq leader (negsuc 0)) (has (replaced old new) leader) e
      | inr k ↦ or_right (int_eq leader (negsuc 0)) (has (replaced old new) leader) ((replaced_same old new).back leader k)
    ]

-- the three parts that replace three others stand by as well
replaced_stand : (i e l i' e' l' replicas : List ℤ) → is_distinct e ≡ true → is_distinct l ≡ true → StandBy replicas i' e' l' → StandBy replicas (replaced i i') (replaced e e') (replaced l l')
replaced_stand i e l i' e' l' replicas one two s = record {
  eligible_part = replaced_part e e' replicas one s.eligible_part;
  last_known_part = replaced_part l l' replicas two s.last_known_part;
  eligible_behind = apart_same (replaced i i') i' (replaced e e') e' (replaced_same i i') (replaced_same e e') s.eligible_behind;
  last_known_behind = apart_same (replaced i i') i' (replaced l l') l' (replaced_same i i') (replaced_same l l') s.last_known_behind;
  separate = apart_same (replaced e e') e' (replaced l l') l' (replaced_same e e') (replaced_same l l') s.separate;
}

natural_pos : (n : ℕ) → is_natural (pos n) ≡ true
natural_pos n = let below : nat_lt n 0 ≡ false = le-ltb n 0 (omega arith) in not_from_false (nat_lt n 0) below

natural_next : (epoch : ℤ) → is_natural epoch ≡ true → is_natural (next_epoch epoch) ≡ true
natural_next (pos n) h =
    elim (int_lt (pos n) (pos 2147483647)) as (λ b. is_natural (cond b (pos n +ℤ pos 1) (pos n)) ≡ true) [ true ↦ natural_pos (n + 1) | false ↦ h ]
natural_next (negsuc n) h = absurd cc

pub next_epochs : (p : Partition) (change : PartitionChange) → has_epochs p ≡ true → has_epochs (merged p change) ≡ true
unfolding merged
next_epochs p change h =
    let parts = and_parts (is_natural p.leader_epoch) (is_natural p.partition_epoch) h in
    and_from (is_natural (cond (is_some change.leader) (next_epoch p.leader_epoch) p.leader_epoch)) (is_natural (next_epoch p.partition_epoch))
    (elim (is_some change.leader) as (λ b. is_natural (cond b (next_epoch p.leader_epoch) p.leader_epoch) ≡ true) [
      | true ↦ natural_next p.leader_epoch parts.0
      | false ↦ parts.0
    ])
    (natural_next p.partition_epoch parts.1)

-- A partition under the fields that differ from a well formed one is well formed.
merged_formed : (most : ℕ) (p q : Partition) → Formed MOST_REPLICAS p → Formed most q → Formed most (merged p (difference p q))
unfolding merged difference
merged_formed most p q before f =
    let epochs = next_epochs p (difference p q) before.epochs in
    let eligible = (and_parts (is_distinct p.eligible) (is_within p.eligible p.replicas) before.stand.eligible_part).0 in
    let last_known = (and_parts (is_distinct p.last_known) (is_within p.last_known p.replicas) before.stand.last_known_part).0 in
    record {
      replicas = rw same_list f.replicas;
      reassignment = rw (same_list p.replicas q.replicas, same_list p.adding q.adding, same_list p.removing q.removing) f.reassignment;
      distinct = replaced_distinct p.in_sync q.in_sync before.distinct f.distinct;
      inside = rw same_list (within_same (replaced p.in_sync q.in_sync) q.in_sync q.replicas (replaced_same p.in_sync q.in_sync) f.inside);
      stand = rw same_list (replaced_stand p.in_sync p.eligible p.last_known q.in_sync q.eligible q.last_known q.replicas eligible last_known f.stand);
      leads = rw same_leader (leader_same q.leader p.in_sync q.in_sync f.leads);
      recovers = rw same_number f.recovers;
      epochs = epochs;
    }

-- what is true of the change where there is one
pub changed_told : (p q : Partition) (P : PartitionChange → Type 0) → P (difference p q) → IfSome (change_between p q) P
changed_told p q P told =
    elim (is_blank (difference p q)) as (λ b. IfSome (cond b None (Some (difference p q))) P) [ true ↦ tt | false ↦ told ]

-- a change that is built merges to a partition that is well formed but for the limit on its replicas
pub built_formed : (most : ℕ) (p : Partition) (want : Want) (facts : Facts) → is_well_formed p ≡ true → Sensible most want → IfSome (built p want facts) (λ change. Formed most (merged p change))
unfolding built
built_formed most p want facts h sensible =
    let before = formed_parts p h in
    changed_told p (aimed p want facts) (λ change. Formed most (merged p change)) (merged_formed most p (aimed p want facts) before (aimed_formed most p want facts before.epochs sensible))

pub kept : BuiltChangesKeepPartitions
kept p want facts h sensible =
    IfSome_then (built p want facts) {P = λ change. Formed MOST_REPLICAS (merged p change)} {Q = λ change. IsTrue (is_well_formed (merged p change))}
    (built_formed MOST_REPLICAS p want facts h (sensible_parts want sensible))
    (λ change f. formed_from (merged p change) f)
