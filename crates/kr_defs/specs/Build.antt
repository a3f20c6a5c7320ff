-- The change of a partition that follows from what is asked of it (after KIP-455 and KIP-966; when a
-- reassignment ends is this project's own).
use Rattle.std.specs.Prelude.{Bool, true, false, not, ◌&&◌, ◌||◌, ◌==◌, length, List, [], ◌∷◌, ℤ, pos, Option, Some, None, is_none, if◌then◌else◌}
use Rattle.std.specs.Ordering.{int_eq}
use Rattle.std.specs.Cmp.Lexicographic.{pointwise}
use Rattle.kr_defs.specs.declared.partition.Partition.{Partition}
use Rattle.kr_defs.specs.declared.partition.PartitionChange.{PartitionChange}
use Rattle.kr_defs.specs.declared.changing.Assignment.{Assignment}
use Rattle.kr_defs.specs.declared.changing.Choice.{Choice}
use Rattle.kr_defs.specs.declared.changing.Choice.TheVariants as choices
use Rattle.kr_defs.specs.declared.changing.Facts.{Facts}
use Rattle.kr_defs.specs.declared.changing.Want.{Want}
use Rattle.kr_defs.specs.Ids.{is_within, within, without}
use Rattle.kr_defs.specs.Partition.{are_replicas, is_reassignment, is_recovery}
use Rattle.kr_defs.specs.Elect.{elected}
use Rattle.kr_defs.specs.Eligible.{eligible_after}

-- what is asked is a replica list with a reassignment, and a recovery state
abbrev pub is_sensible : Want → Bool
is_sensible want = are_replicas want.replicas && is_reassignment want.replicas want.adding want.removing && is_recovery want.recovery

-- each replica that the reassignment leads to is in sync
abbrev pub is_target_in_sync : List ℤ → List ℤ → List ℤ → Bool
is_target_in_sync replicas removing in_sync = is_within (without replicas removing) in_sync

-- a reassignment runs, and each replica that it leads to is in sync
unfoldable pub completes : List ℤ → List ℤ → List ℤ → List ℤ → Bool
completes replicas adding removing in_sync =
    (not (length adding == 0) || not (length removing == 0)) && is_target_in_sync replicas removing in_sync

-- the lists that are asked for; in sync are the members of the replicas alone, in their order
abbrev pub asked : Want → Assignment
asked want = record {
  replicas = want.replicas;
  adding = want.adding;
  removing = want.removing;
  in_sync = within want.replicas want.in_sync;
}

-- the target alone is left
abbrev pub reached : Assignment → Assignment
reached a = record {
  replicas = without a.replicas a.removing;
  adding = [];
  removing = [];
  in_sync = within a.in_sync (without a.replicas a.removing);
}

-- a reassignment that completes ends
unfoldable pub ended : Assignment → Assignment
ended a = if completes a.replicas a.adding a.removing a.in_sync then reached a else a

-- the leader wasn't in sync, so that it alone is in sync from then on
abbrev pub starts_alone : Choice → Bool
starts_alone choices.Eligible = true
starts_alone choices.Unclean = true
starts_alone other = false

abbrev pub is_unclean_choice : Choice → Bool
is_unclean_choice choices.Unclean = true
is_unclean_choice other = false

-- the lists after an election
unfoldable pub settled : Assignment → ℤ → Choice → Assignment
settled a leader choice = if starts_alone choice then ended (record a { in_sync = leader ∷ [] }) else a

-- the eligible and the last known replicas; none after an unclean election
unfoldable pub standing_by : Partition → Assignment → Choice → ℤ → Option ℤ → List ℤ × List ℤ
standing_by p a choice minimum restarted =
    if is_unclean_choice choice then ([], []) else eligible_after p a.replicas a.in_sync minimum restarted

-- an unclean election begins a recovery
abbrev pub recovery_after : Choice → ℤ → ℤ
recovery_after choice recovery = if is_unclean_choice choice then pos 1 else recovery

-- the partition with these lists and this leader, its epochs as before
abbrev pub formed : Partition → Assignment → List ℤ × List ℤ → ℤ → ℤ → Partition
formed p a lists leader recovery = record p {
  replicas = a.replicas;
  in_sync = a.in_sync;
  eligible = lists.0;
  last_known = lists.1;
  adding = a.adding;
  removing = a.removing;
  leader = leader;
  recovery = recovery;
}

-- the partition that follows, its epochs as before
unfoldable pub aimed : Partition → Want → Facts → Partition
aimed p want facts =
    let before = ended (asked want) in
    let election = elected p before.replicas before.in_sync want.mode want.restarted facts in
    let after = settled before election.0 election.1 in
    formed p after (standing_by p after election.1 facts.minimum want.restarted) election.0 (recovery_after election.1 want.recovery)

abbrev pub unless : {X : Type 0} → Bool → X → Option X
unless test value = if test then None else Some value

-- the same members, in any order
abbrev pub same_members : List ℤ → List ℤ → Bool
same_members ids those = is_within ids those && is_within those ids

-- The fields that differ: of three lists only the members count, and the leader is named as well where a replica goes.
unfoldable pub difference : Partition → Partition → PartitionChange
difference old new = record {
  in_sync = unless (same_members old.in_sync new.in_sync) new.in_sync;
  replicas = unless (pointwise int_eq old.replicas new.replicas) new.replicas;
  removing = unless (pointwise int_eq old.removing new.removing) new.removing;
  adding = unless (pointwise int_eq old.adding new.adding) new.adding;
  eligible = unless (same_members old.eligible new.eligible) new.eligible;
  last_known = unless (same_members old.last_known new.last_known) new.last_known;
  leader = unless (int_eq old.leader new.leader && is_within old.replicas new.replicas) new.leader;
  recovery = unless (int_eq old.recovery new.recovery) new.recovery;
}

-- it has no field
abbrev pub is_blank : PartitionChange → Bool
is_blank change =
    is_none change.in_sync && is_none change.eligible && is_none change.last_known && is_none change.leader
    && (is_none change.replicas && is_none change.removing && is_none change.adding && is_none change.recovery)

-- no change where no field differs
abbrev pub change_between : Partition → Partition → Option PartitionChange
change_between old new = unless (is_blank (difference old new)) (difference old new)

unfoldable pub built : Partition → Want → Facts → Option PartitionChange
built p want facts = change_between p (aimed p want facts)
