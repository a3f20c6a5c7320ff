-- Kafka's AlterPartition, version 3 (KIP-497, KIP-704, KIP-841, KIP-903, KIP-966): what a leader reports of its partitions.
-- That a report from the future is refused, and the order of refusals, are this project's own.
use Rattle.std.specs.Prelude.{ℕ, ℤ, pos, negsuc, int_lt, Bool, true, false, not, ◌&&◌, ◌||◌, ◌==◌, nat_lt, List, [], ◌∷◌, length, map, Option, Some, None, Result, Ok, if◌then◌else◌, is_ok}
use Rattle.std.specs.List.{list_all}
use Rattle.std.specs.Option.{option_map_or}
use Rattle.std.specs.Ordering.{int_cmp, int_eq}
use Rattle.kr_defs.specs.declared.broker.Broker.{Broker}
use Rattle.kr_defs.specs.declared.changing.Want.{Want}
use Rattle.kr_defs.specs.declared.options.Options.{Options}
use Rattle.kr_defs.specs.declared.partition.Partition.{Partition}
use Rattle.kr_defs.specs.declared.partition.PartitionChange.{PartitionChange}
use Rattle.kr_defs.specs.Map as entries
use Rattle.kr_defs.specs.declared.record.Record.TheVariants as kinds
use Rattle.kr_defs.specs.Brokers.{is_active}
use Rattle.kr_defs.specs.Build.{built}
use Rattle.kr_defs.specs.DefaultWant.{default_want}
use Rattle.kr_defs.specs.Guard.{found, refuse◌when◌else◌}
use Rattle.kr_defs.specs.Ids.{has, is_distinct, is_within}
use Rattle.kr_defs.specs.Image.{Image, topic_name}
use Rattle.kr_defs.specs.Map.{partition_order}
use Rattle.kr_defs.specs.Merge.{merged}
use Rattle.kr_defs.specs.Partition.{is_recovery}
use Rattle.kr_defs.specs.Settings.{facts_of}
use Rattle.kr_calls.specs.declared.errors.TheConstants.{FENCED_LEADER_EPOCH, INELIGIBLE_REPLICA, INVALID_REQUEST, INVALID_UPDATE_VERSION, NEW_LEADER_ELECTED, STALE_BROKER_EPOCH, UNKNOWN_LEADER_EPOCH, UNKNOWN_TOPIC_ID, UNKNOWN_TOPIC_OR_PARTITION}
use Rattle.kr_calls.specs.declared.calls.Reply.{Reply}
use Rattle.kr_calls.specs.declared.deciding.Draft.{Draft}
use Rattle.kr_calls.specs.declared.alter_partition.AlterPartition.{AlterPartition}
use Rattle.kr_calls.specs.declared.alter_partition.AlterPartitionResult.{AlterPartitionResult}
use Rattle.kr_calls.specs.declared.alter_partition.AlterPartitionTopic.{AlterPartitionTopic}
use Rattle.kr_calls.specs.declared.alter_partition.AlterPartitionTopicResult.{AlterPartitionTopicResult}
use Rattle.kr_calls.specs.declared.alter_partition.BrokerState.{BrokerState}
use Rattle.kr_calls.specs.declared.alter_partition.PartitionReport.{PartitionReport}
use Rattle.kr_calls.specs.declared.calls.Reply.TheVariants as replies
use Rattle.kr_calls.specs.Deciding.{Work, after_groups, nothing_decided, group_answers}

-- a partition of a topic as its leader sees it
abbrev pub Entry : Type 0
Entry = ℕ × PartitionReport

abbrev pub members : PartitionReport → List ℤ
members report = map (λ m. m.broker) report.in_sync

-- with an error number every other field is 0 or empty
abbrev pub refused : ℤ → Entry → AlterPartitionResult
refused error entry = record {
  index = entry.1.index;
  error = error;
  leader = pos 0;
  leader_epoch = pos 0;
  in_sync = [];
  recovery = pos 0;
  partition_epoch = pos 0;
}

-- ---- what can't be reported

-- the recovery state can't follow on the partition's
abbrev pub is_bad_recovery : Partition → PartitionReport → Bool
is_bad_recovery p report =
    not (is_recovery report.recovery)
    || int_eq report.recovery (pos 1) && (nat_lt 1 (length (members report)) || int_eq p.recovery (pos 0))

-- not some of the replicas, each once, with the leader
abbrev pub are_bad_members : Partition → List ℤ → Bool
are_bad_members p ids = length ids == 0 || not (is_distinct ids) || not (has ids p.leader) || not (is_within ids p.replicas)

-- the report can't be one of this partition's leader
abbrev pub is_bad : ℤ → Partition → PartitionReport → Bool
is_bad broker p report = not (int_eq p.leader broker) || are_bad_members p (members report) || is_bad_recovery p report

-- the epoch isn't told, or is that of the registration
abbrev pub is_same_epoch : ℤ → Broker → Bool
is_same_epoch epoch state = int_eq epoch (negsuc 0) || int_eq epoch state.epoch

-- a member may be in sync
abbrev pub is_ready : Image → BrokerState → Bool
is_ready image m =
    option_map_or (λ state. is_active state && is_same_epoch m.epoch state) (entries.get int_cmp image.brokers m.broker) false

-- ---- what comes of a report

abbrev pub wanted : Partition → PartitionReport → Want
wanted p report = record (default_want p) { in_sync = members report; recovery = report.recovery }

-- the partition's new values, where the broker that reported still leads
abbrev pub partition_result : ℤ → Entry → Partition → AlterPartitionResult
partition_result broker entry p =
    if int_eq p.leader broker
    then record {
      index = entry.1.index;
      error = pos 0;
      leader = p.leader;
      leader_epoch = p.leader_epoch;
      in_sync = p.in_sync;
      recovery = p.recovery;
      partition_epoch = p.partition_epoch;
    }
    else refused NEW_LEADER_ELECTED entry

abbrev pub drafted : ℤ → Entry → Partition → Option PartitionChange → Draft AlterPartitionResult
drafted broker entry p None = record { records = []; answer = partition_result broker entry p }
drafted broker entry p (Some change) = record {
  records = kinds.PartitionChange entry.1.index entry.0 change ∷ [];
  answer = partition_result broker entry (merged p change);
}

unfoldable pub accepted : Options → ℤ → Image → Entry → List ℕ → Partition → Draft AlterPartitionResult
accepted options broker image entry name p = drafted broker entry p (built p (wanted p entry.1) (facts_of options image name))

-- the report knows the partition's epochs
abbrev pub with_epochs : {X : Type 0} → Partition → PartitionReport → Result X ℤ → Result X ℤ
with_epochs p report rest =
    refuse FENCED_LEADER_EPOCH when int_lt report.leader_epoch p.leader_epoch else
    refuse UNKNOWN_LEADER_EPOCH when int_lt p.leader_epoch report.leader_epoch else
    refuse INVALID_UPDATE_VERSION when not (int_eq report.partition_epoch p.partition_epoch) else
    rest

-- the report is one of the partition's leader, over brokers that may be in sync
abbrev pub with_members : {X : Type 0} → ℤ → Image → Partition → PartitionReport → Result X ℤ → Result X ℤ
with_members broker image p report rest =
    refuse INVALID_REQUEST when is_bad broker p report else
    refuse INELIGIBLE_REPLICA when not (list_all (is_ready image) report.in_sync) else
    rest

unfoldable pub of_partition : Options → ℤ → Image → Entry → List ℕ → Partition → Result (Draft AlterPartitionResult) ℤ
of_partition options broker image entry name p =
    with_epochs p entry.1 (with_members broker image p entry.1 (Ok (accepted options broker image entry name p)))

abbrev pub rule : Options → ℤ → Image → ℤ → Entry → Result (Draft AlterPartitionResult) ℤ
rule options broker image place entry =
    found UNKNOWN_TOPIC_ID (topic_name image.topics entry.0) (λ name.
    found UNKNOWN_TOPIC_OR_PARTITION (entries.get partition_order image.partitions (entry.0, entry.1.index)) (λ p.
    of_partition options broker image entry name p))

-- no report is refused that reads so
abbrev pub is_accepted : ℤ → Image → Partition → PartitionReport → Bool
is_accepted broker image p report = is_ok (with_epochs p report (with_members broker image p report (Ok report)))

-- ---- the whole request

-- the broker that reports isn't registered with this epoch
abbrev pub is_stale : Image → AlterPartition → Bool
is_stale image request =
    option_map_or (λ state. not (int_eq request.epoch state.epoch)) (entries.get int_cmp image.brokers request.broker) true

abbrev pub entries_of : AlterPartitionTopic → List Entry
entries_of topic = map (λ report. (topic.topic, report)) topic.partitions

abbrev pub answer_of : AlterPartitionTopic → List AlterPartitionResult → AlterPartitionTopicResult
answer_of topic partitions = record { topic = topic.topic; partitions = partitions }

abbrev pub reply_of : ℤ → List AlterPartitionTopicResult → Reply
reply_of error topics = replies.AlterPartition (record { error = error; topics = topics })

unfoldable pub decided : Options → Image → ℤ → AlterPartition → Work × Reply
decided options image place request =
    let start = nothing_decided place image in
    if is_stale image request then (start, reply_of STALE_BROKER_EPOCH []) else (
      after_groups refused (rule options request.broker) entries_of answer_of start request.topics,
      reply_of (pos 0) (group_answers refused (rule options request.broker) entries_of answer_of start request.topics),
    )
