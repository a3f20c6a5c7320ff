-- What is decided of partitions, by computation: each refusal, and one change of each kind.
use Rattle.std.specs.Prelude.{◌≡◌, ℤ, pos, negsuc, List, [], ◌∷◌, Option, Some, None, Result, Ok, Err, codes}
use Rattle.std.proofs.Common.{refl}
use Rattle.kr_defs.specs.declared.partition.Partition.{Partition}
use Rattle.kr_defs.specs.declared.record.Record.TheVariants as kinds
use Rattle.kr_defs.specs.Build.{aimed, built, completes, difference, ended, settled, standing_by}
use Rattle.kr_defs.specs.Elect.{elected}
use Rattle.kr_defs.specs.Eligible.{eligible_after}
use Rattle.kr_defs.specs.Merge.{merged}
use Rattle.kr_calls.specs.declared.errors.TheConstants.{ELECTION_NOT_NEEDED, ELIGIBLE_LEADERS_NOT_AVAILABLE, FENCED_LEADER_EPOCH, INELIGIBLE_REPLICA, INVALID_REPLICA_ASSIGNMENT, INVALID_REQUEST, INVALID_UPDATE_VERSION, NEW_LEADER_ELECTED, NO_REASSIGNMENT_IN_PROGRESS, PREFERRED_LEADER_NOT_AVAILABLE, UNKNOWN_LEADER_EPOCH, UNKNOWN_TOPIC_ID, UNKNOWN_TOPIC_OR_PARTITION}
use Rattle.kr_calls.specs.declared.deciding.Draft.{Draft}
use Rattle.kr_calls.specs.declared.alter_partition.AlterPartitionResult.{AlterPartitionResult}
use Rattle.kr_calls.specs.declared.alter_partition.BrokerState.{BrokerState}
use Rattle.kr_calls.specs.declared.elect_leaders.PartitionElectionResult.{PartitionElectionResult}
use Rattle.kr_calls.specs.declared.alter_partition.PartitionReport.{PartitionReport}
use Rattle.kr_calls.specs.declared.alter_partition_reassignments.ReassignablePartitionResponse.{ReassignablePartitionResponse}
use Rattle.kr_calls.specs.AlterPartition as alter_partition
use Rattle.kr_calls.specs.AlterPartitionReassignments as alter_partition_reassignments
use Rattle.kr_calls.specs.ElectLeaders as elect_leaders
use Rattle.kr_calls.specs.declared.calls.Reply.TheVariants as replies
use Rattle.kr_calls.proofs.Cluster.{broker, cluster, image, leaderless, no_change, options, whole}
use Rattle.kr_calls.specs.Deciding.{nothing_decided, done}

-- ---- reports of leaders

abbrev pub member : ℤ → ℤ → BrokerState
member broker epoch = record { broker = broker; epoch = epoch }

abbrev pub tells : PartitionReport
tells = record {
  index = pos 0;
  leader_epoch = pos 5;
  in_sync = member (pos 1) (pos 10) ∷ member (pos 2) (negsuc 0) ∷ [];
  recovery = pos 0;
  partition_epoch = pos 7;
}

abbrev report : PartitionReport → Result (Draft AlterPartitionResult) ℤ
report told = alter_partition.rule options (pos 1) image (pos 30) (77, told)

unknown_id : alter_partition.rule options (pos 1) image (pos 30) (78, tells) ≡ Err UNKNOWN_TOPIC_ID
unknown_id = refl

unknown_index : report (record tells { index = pos 1 }) ≡ Err UNKNOWN_TOPIC_OR_PARTITION
unknown_index = refl

old_leader_epoch : report (record tells { leader_epoch = pos 4 }) ≡ Err FENCED_LEADER_EPOCH
unfolding alter_partition.of_partition
old_leader_epoch = refl

future_leader_epoch : report (record tells { leader_epoch = pos 6 }) ≡ Err UNKNOWN_LEADER_EPOCH
unfolding alter_partition.of_partition
future_leader_epoch = refl

other_partition_epoch : report (record tells { partition_epoch = pos 6 }) ≡ Err INVALID_UPDATE_VERSION
unfolding alter_partition.of_partition
other_partition_epoch = refl

not_the_leader : alter_partition.rule options (pos 2) image (pos 30) (77, tells) ≡ Err INVALID_REQUEST
unfolding alter_partition.of_partition
not_the_leader = refl

nobody_in_sync : report (record tells { in_sync = [] }) ≡ Err INVALID_REQUEST
unfolding alter_partition.of_partition
nobody_in_sync = refl

member_twice : report (record tells { in_sync = member (pos 1) (pos 10) ∷ member (pos 1) (pos 10) ∷ [] }) ≡ Err INVALID_REQUEST
unfolding alter_partition.of_partition
member_twice = refl

without_leader : report (record tells { in_sync = member (pos 2) (pos 11) ∷ [] }) ≡ Err INVALID_REQUEST
unfolding alter_partition.of_partition
without_leader = refl

not_a_replica : report (record tells { in_sync = member (pos 1) (pos 10) ∷ member (pos 4) (pos 13) ∷ [] }) ≡ Err INVALID_REQUEST
unfolding alter_partition.of_partition
not_a_replica = refl

unknown_recovery : report (record tells { recovery = pos 2 }) ≡ Err INVALID_REQUEST
unfolding alter_partition.of_partition
unknown_recovery = refl

-- a partition that isn't recovering doesn't begin to
begins_recovery : report (record tells { in_sync = member (pos 1) (pos 10) ∷ []; recovery = pos 1 }) ≡ Err INVALID_REQUEST
unfolding alter_partition.of_partition
begins_recovery = refl

recovers_with_two : alter_partition.rule options (pos 1) (cluster (record whole { recovery = pos 1 })) (pos 30) (77, record tells { recovery = pos 1 }) ≡ Err INVALID_REQUEST
unfolding alter_partition.of_partition
recovers_with_two = refl

other_broker_epoch : report (record tells { in_sync = member (pos 1) (pos 10) ∷ member (pos 2) (pos 12) ∷ [] }) ≡ Err INELIGIBLE_REPLICA
unfolding alter_partition.of_partition
other_broker_epoch = refl

inactive_member : alter_partition.rule options (pos 1) (cluster (record whole { replicas = pos 1 ∷ pos 4 ∷ []; in_sync = pos 1 ∷ [] })) (pos 30)
    (77, record tells { in_sync = member (pos 1) (pos 10) ∷ member (pos 4) (pos 13) ∷ [] }) ≡ Err INELIGIBLE_REPLICA
unfolding alter_partition.of_partition
inactive_member = refl

shrinks : report tells ≡ Ok (record {
  records = kinds.PartitionChange (pos 0) 77 (record no_change { in_sync = Some (pos 1 ∷ pos 2 ∷ []) }) ∷ [];
  answer = record {
    index = pos 0;
    error = pos 0;
    leader = pos 1;
    leader_epoch = pos 5;
    in_sync = pos 1 ∷ pos 2 ∷ [];
    recovery = pos 0;
    partition_epoch = pos 8;
  };
})
unfolding alter_partition.of_partition alter_partition.accepted built aimed ended completes settled standing_by elected eligible_after difference merged
shrinks = refl

-- a reassignment to 2 and 3 ends with this report, and takes the leadership from the broker that reports
abbrev moving : Partition
moving = record whole { in_sync = pos 1 ∷ pos 2 ∷ []; adding = pos 3 ∷ []; removing = pos 1 ∷ [] }

another_leads : alter_partition.rule options (pos 1) (cluster moving) (pos 30) (77, record tells { in_sync = member (pos 1) (pos 10) ∷ member (pos 2) (pos 11) ∷ member (pos 3) (pos 12) ∷ [] })
    ≡ Ok (record {
      records = kinds.PartitionChange (pos 0) 77 (record no_change {
        in_sync = Some (pos 2 ∷ pos 3 ∷ []);
        replicas = Some (pos 2 ∷ pos 3 ∷ []);
        adding = Some [];
        removing = Some [];
        leader = Some (pos 2);
      }) ∷ [];
      answer = record { index = pos 0; error = NEW_LEADER_ELECTED; leader = pos 0; leader_epoch = pos 0; in_sync = []; recovery = pos 0; partition_epoch = pos 0 };
    })
unfolding alter_partition.of_partition alter_partition.accepted built aimed ended completes settled standing_by elected eligible_after difference merged
another_leads = refl

-- ---- elections

abbrev elect : ℤ → Partition → Result (Draft PartitionElectionResult) ℤ
elect kind p = elect_leaders.rule options kind (cluster p) (pos 30) (codes "t.a", pos 0)

unknown_topic : elect_leaders.rule options (pos 0) image (pos 30) (codes "x", pos 0) ≡ Err UNKNOWN_TOPIC_OR_PARTITION
unknown_topic = refl

unknown_partition : elect_leaders.rule options (pos 0) image (pos 30) (codes "t.a", pos 1) ≡ Err UNKNOWN_TOPIC_OR_PARTITION
unknown_partition = refl

first_leads : elect (pos 0) whole ≡ Err ELECTION_NOT_NEEDED
first_leads = refl

first_not_in_sync : elect (pos 0) (record whole { in_sync = pos 2 ∷ pos 3 ∷ []; leader = pos 2 }) ≡ Err PREFERRED_LEADER_NOT_AVAILABLE
first_not_in_sync = refl

first_not_active : elect (pos 0) (record whole { replicas = pos 4 ∷ pos 2 ∷ []; in_sync = pos 4 ∷ pos 2 ∷ []; leader = pos 2 }) ≡ Err PREFERRED_LEADER_NOT_AVAILABLE
first_not_active = refl

first_is_elected : elect (pos 0) (record whole { leader = pos 2 }) ≡ Ok (record {
  records = kinds.PartitionChange (pos 0) 77 (record no_change { leader = Some (pos 1) }) ∷ [];
  answer = record { index = pos 0; error = pos 0 };
})
unfolding built aimed ended completes settled standing_by elected eligible_after difference
first_is_elected = refl

somebody_leads : elect (pos 1) whole ≡ Err ELECTION_NOT_NEEDED
somebody_leads = refl

-- broker 4 alone is a replica, and is fenced
nobody_to_lead : elect (pos 1) (record leaderless { replicas = pos 4 ∷ []; eligible = [] }) ≡ Err ELIGIBLE_LEADERS_NOT_AVAILABLE
unfolding aimed ended completes settled standing_by elected eligible_after
nobody_to_lead = refl

anybody_leads : elect (pos 1) (record leaderless { replicas = pos 4 ∷ pos 2 ∷ []; eligible = [] }) ≡ Ok (record {
  records = kinds.PartitionChange (pos 0) 77 (record no_change { in_sync = Some (pos 2 ∷ []); leader = Some (pos 2); recovery = Some (pos 1) }) ∷ [];
  answer = record { index = pos 0; error = pos 0 };
})
unfolding built aimed ended completes settled standing_by elected eligible_after difference
anybody_leads = refl

unknown_type : elect_leaders.decided options image (pos 30) (record { kind = pos 2; topics = None })
    ≡ (nothing_decided (pos 30) image, replies.ElectLeaders (record { error = INVALID_REQUEST; results = [] }))
unfolding elect_leaders.decided
unknown_type = refl

-- where all partitions are asked for, one that needs no election isn't shown, nor is its topic
nothing_shown : elect_leaders.decided options image (pos 30) (record { kind = pos 0; topics = None })
    ≡ (nothing_decided (pos 30) image, replies.ElectLeaders (record { error = pos 0; results = [] }))
unfolding elect_leaders.decided done
nothing_shown = refl

shown_by_name : elect_leaders.decided options image (pos 30) (record { kind = pos 0; topics = Some (record { topic = codes "t.a"; partitions = pos 0 ∷ [] } ∷ []) })
    ≡ (nothing_decided (pos 30) image, replies.ElectLeaders (record { error = pos 0; results = record { topic = codes "t.a"; partitions = record { index = pos 0; error = ELECTION_NOT_NEEDED } ∷ [] } ∷ [] }))
unfolding elect_leaders.decided done
shown_by_name = refl

-- ---- reassignments

abbrev reassign : Partition → Option (List ℤ) → Result (Draft ReassignablePartitionResponse) ℤ
reassign p replicas = alter_partition_reassignments.rule options (cluster p) (pos 30) (codes "t.a", record { index = pos 0; replicas = replicas })

unknown_to_reassign : alter_partition_reassignments.rule options image (pos 30) (codes "x", record { index = pos 0; replicas = None }) ≡ Err UNKNOWN_TOPIC_OR_PARTITION
unknown_to_reassign = refl

nothing_to_cancel : reassign whole None ≡ Err NO_REASSIGNMENT_IN_PROGRESS
nothing_to_cancel = refl

no_target : reassign whole (Some []) ≡ Err INVALID_REPLICA_ASSIGNMENT
no_target = refl

target_twice : reassign whole (Some (pos 1 ∷ pos 1 ∷ [])) ≡ Err INVALID_REPLICA_ASSIGNMENT
target_twice = refl

target_not_registered : reassign whole (Some (pos 9 ∷ [])) ≡ Err INVALID_REPLICA_ASSIGNMENT
target_not_registered = refl

-- cancelled, the replicas would be 1 and 2, of which none is in sync
cancel_loses_all : reassign (record whole { adding = pos 3 ∷ []; in_sync = pos 3 ∷ []; leader = pos 3 }) None ≡ Err INVALID_REPLICA_ASSIGNMENT
cancel_loses_all = refl

starts : reassign (record whole { replicas = pos 1 ∷ pos 2 ∷ []; in_sync = pos 1 ∷ pos 2 ∷ [] }) (Some (pos 2 ∷ pos 3 ∷ [])) ≡ Ok (record {
  records = kinds.PartitionChange (pos 0) 77 (record no_change { replicas = Some (pos 2 ∷ pos 3 ∷ pos 1 ∷ []); adding = Some (pos 3 ∷ []); removing = Some (pos 1 ∷ []) }) ∷ [];
  answer = record { index = pos 0; error = pos 0 };
})
unfolding built aimed ended completes settled standing_by elected eligible_after difference
starts = refl

cancelled : reassign (record whole { adding = pos 3 ∷ []; in_sync = pos 1 ∷ pos 2 ∷ [] }) None ≡ Ok (record {
  records = kinds.PartitionChange (pos 0) 77 (record no_change { replicas = Some (pos 1 ∷ pos 2 ∷ []); adding = Some []; leader = Some (pos 1) }) ∷ [];
  answer = record { index = pos 0; error = pos 0 };
})
unfolding built aimed ended completes settled standing_by elected eligible_after difference
cancelled = refl
