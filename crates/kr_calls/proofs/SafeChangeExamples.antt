-- Which changes are safe, by computation: each request with the reply that it is given.
use Rattle.std.specs.Prelude.{◌≡◌, ℤ, pos, negsuc, Bool, true, false, List, [], ◌∷◌, Option, Some, None, codes}
use Rattle.std.proofs.Common.{refl}
use Rattle.kr_defs.specs.declared.partition.Partition.{Partition}
use Rattle.kr_defs.specs.declared.partition.PartitionChange.{PartitionChange}
use Rattle.kr_defs.specs.Apply.{apply_record}
use Rattle.kr_defs.specs.Build.{aimed, built, completes, difference, ended, settled, standing_by}
use Rattle.kr_defs.specs.Elect.{elected}
use Rattle.kr_defs.specs.Eligible.{eligible_after}
use Rattle.kr_defs.specs.Merge.{merged}
use Rattle.kr_defs.specs.Partition.{is_well_formed}
use Rattle.kr_defs.specs.Sizes.{value_bytes}
use Rattle.kr_calls.specs.declared.calls.Request.{Request}
use Rattle.kr_calls.specs.declared.alter_partition.PartitionReport.{PartitionReport}
use Rattle.kr_calls.specs.declared.calls.Request.TheVariants as requests
use Rattle.kr_calls.specs.AlterPartition as alter_partition
use Rattle.kr_calls.specs.AlterPartitionReassignments as alter_partition_reassignments
use Rattle.kr_calls.specs.Deciding.{done, taken}
use Rattle.kr_calls.specs.Decide.{decide, work_of}
use Rattle.kr_calls.specs.ElectLeaders as elect_leaders
use Rattle.kr_calls.specs.SafeChange.{Exchange, is_safe}
use Rattle.kr_calls.proofs.Cluster.{basis, cluster, leaderless, no_change, options, whole}
use Rattle.kr_calls.proofs.PartitionExamples.{member, tells}

abbrev named : ℤ → PartitionChange
named leader = record no_change { leader = Some leader }

abbrev safe : Option Exchange → Partition → PartitionChange → Bool
safe exchange p change = is_safe (cluster p) exchange (codes "t.a") (77, pos 0) p change

-- the request is decided where the partition stands so
abbrev asked : Partition → Request → Option Exchange
asked p request = Some (request, (decide options (cluster p) basis (pos 30) request).reply)

in_sync_leads : safe None whole (named (pos 3)) ≡ true
unfolding is_safe merged
in_sync_leads = refl

eligible_leads : safe None leaderless (named (pos 3)) ≡ true
unfolding is_safe merged
eligible_leads = refl

nobody_leads : safe None whole (named (negsuc 0)) ≡ true
unfolding is_safe merged
nobody_leads = refl

another_leads : safe None leaderless (named (pos 2)) ≡ false
unfolding is_safe merged
another_leads = refl

abbrev elects : ℤ → Request
elects kind = requests.ElectLeaders (record { kind = kind; topics = None })

asked_for : safe (asked leaderless (elects (pos 1))) leaderless (named (pos 2)) ≡ true
unfolding is_safe merged work_of elect_leaders.decided
asked_for = refl

preferred_only : safe (asked leaderless (elects (pos 0))) leaderless (named (pos 2)) ≡ false
unfolding is_safe merged work_of elect_leaders.decided
preferred_only = refl

-- ---- broker 1 of epoch 10 reports that 2 is in sync, too

abbrev alone : Partition
alone = record whole { in_sync = pos 1 ∷ [] }

abbrev reports_of : ℤ → List PartitionReport → Request
reports_of epoch told = requests.AlterPartition (record { broker = pos 1; epoch = epoch; topics = record { topic = 77; partitions = told } ∷ [] })

reported_leads : safe (asked alone (reports_of (pos 10) (tells ∷ []))) alone (named (pos 2)) ≡ true
unfolding is_safe merged work_of alter_partition.decided alter_partition.of_partition alter_partition.accepted done taken apply_record value_bytes is_well_formed built aimed ended completes settled standing_by elected eligible_after difference
reported_leads = refl

stale_report : safe (asked alone (reports_of (pos 9) (tells ∷ []))) alone (named (pos 2)) ≡ false
unfolding is_safe merged work_of alter_partition.decided
stale_report = refl

-- and that 3 is, by a second report of the same epoch: each would be accepted alone, but behind the first the second is stale
abbrev tells_of_3 : PartitionReport
tells_of_3 = record tells { in_sync = member (pos 1) (pos 10) ∷ member (pos 3) (negsuc 0) ∷ [] }

abbrev twice : Option Exchange
twice = asked alone (reports_of (pos 10) (tells ∷ tells_of_3 ∷ []))

first_report_leads : safe twice alone (named (pos 2)) ≡ true
unfolding is_safe merged work_of alter_partition.decided alter_partition.of_partition alter_partition.accepted done taken apply_record value_bytes is_well_formed built aimed ended completes settled standing_by elected eligible_after difference
first_report_leads = refl

accepted_alone : alter_partition.is_accepted (pos 1) (cluster alone) alone tells_of_3 ≡ true
accepted_alone = refl

refused_report_does_not_lead : safe twice alone (named (pos 3)) ≡ false
unfolding is_safe merged work_of alter_partition.decided alter_partition.of_partition alter_partition.accepted done taken apply_record value_bytes is_well_formed built aimed ended completes settled standing_by elected eligible_after difference
refused_report_does_not_lead = refl

-- ---- reassignments

abbrev moving : Partition
moving = record whole { in_sync = pos 1 ∷ pos 2 ∷ []; adding = pos 3 ∷ []; removing = pos 1 ∷ [] }

-- by a report that 2 and 3 are in sync a reassignment to these ends, and another broker leads: either may
abbrev tells_all : PartitionReport
tells_all = record tells { in_sync = member (pos 1) (pos 10) ∷ member (pos 2) (pos 11) ∷ member (pos 3) (pos 12) ∷ [] }

reported_end_leads : safe (asked moving (reports_of (pos 10) (tells_all ∷ []))) moving (named (pos 3)) ≡ true
unfolding is_safe merged work_of alter_partition.decided alter_partition.of_partition alter_partition.accepted done taken apply_record value_bytes is_well_formed built aimed ended completes settled standing_by elected eligible_after difference
reported_end_leads = refl

abbrev ends : List ℤ → PartitionChange
ends in_sync = record no_change { replicas = Some (pos 2 ∷ pos 3 ∷ []); in_sync = Some in_sync; adding = Some []; removing = Some []; leader = Some (pos 2) }

ends_in_sync : safe None moving (ends (pos 2 ∷ pos 3 ∷ [])) ≡ true
unfolding is_safe merged
ends_in_sync = refl

ends_early : safe None moving (ends (pos 2 ∷ [])) ≡ false
unfolding is_safe merged
ends_early = refl

abbrev reassigns : Option (List ℤ) → Request
reassigns replicas = requests.AlterPartitionReassignments (record { topics = record { name = codes "t.a"; partitions = record { index = pos 0; replicas = replicas } ∷ [] } ∷ [] })

ends_by_request : safe (asked moving (reassigns None)) moving (ends (pos 2 ∷ [])) ≡ true
unfolding is_safe merged work_of alter_partition_reassignments.decided done taken apply_record value_bytes is_well_formed built aimed ended completes settled standing_by elected eligible_after difference
ends_by_request = refl

-- the request was refused: 9 isn't registered
refused_request_ends_nothing : safe (asked moving (reassigns (Some (pos 9 ∷ [])))) moving (ends (pos 2 ∷ [])) ≡ false
unfolding is_safe merged work_of alter_partition_reassignments.decided done taken
refused_request_ends_nothing = refl
