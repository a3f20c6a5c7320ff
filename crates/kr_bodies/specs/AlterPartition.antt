-- AlterPartition, key 56, version 3, after Kafka's published schemas: what its bytes and those of its reply stand for, and their layouts.
use Rattle.std.specs.Prelude.{List, ℕ, pos, refl}
use Rattle.std.specs.Int.{w16, w32, w64, w8}
use Rattle.kr_wire.specs.Grammar.{◌⌢◌, IsSigned, IsId, IsList, NoTags}
use Rattle.kr_wire.specs.Schema.{Schema, ◌▸◌, Int16, Int32, Int64, Uuid, Array, Constant, Structure, End, Int8}
use Rattle.kr_calls.specs.declared.alter_partition.BrokerState.{BrokerState}
use Rattle.kr_calls.specs.declared.alter_partition.PartitionReport.{PartitionReport}
use Rattle.kr_calls.specs.declared.alter_partition.AlterPartitionTopic.{AlterPartitionTopic}
use Rattle.kr_calls.specs.declared.alter_partition.AlterPartition.{AlterPartition}
use Rattle.kr_calls.specs.declared.alter_partition.AlterPartitionResult.{AlterPartitionResult}
use Rattle.kr_calls.specs.declared.alter_partition.AlterPartitionTopicResult.{AlterPartitionTopicResult}
use Rattle.kr_calls.specs.declared.alter_partition.AlterPartitionReply.{AlterPartitionReply}

-- ---- what bytes stand for

abbrev pub IsBrokerState : BrokerState → List ℕ → Type 0
IsBrokerState b = IsSigned w32 b.broker ⌢ IsSigned w64 b.epoch ⌢ NoTags

abbrev pub IsPartitionReport : PartitionReport → List ℕ → Type 0
IsPartitionReport r =
    IsSigned w32 r.index ⌢ IsSigned w32 r.leader_epoch ⌢ IsList IsBrokerState r.in_sync ⌢
    IsSigned w8 r.recovery ⌢ IsSigned w32 r.partition_epoch ⌢ NoTags

abbrev pub IsAlterPartitionTopic : AlterPartitionTopic → List ℕ → Type 0
IsAlterPartitionTopic t = IsId t.topic ⌢ IsList IsPartitionReport t.partitions ⌢ NoTags

abbrev pub IsAlterPartition : AlterPartition → List ℕ → Type 0
IsAlterPartition q = IsSigned w32 q.broker ⌢ IsSigned w64 q.epoch ⌢ IsList IsAlterPartitionTopic q.topics ⌢ NoTags

abbrev pub IsAlterPartitionResult : AlterPartitionResult → List ℕ → Type 0
IsAlterPartitionResult r =
    IsSigned w32 r.index ⌢ IsSigned w16 r.error ⌢ IsSigned w32 r.leader ⌢ IsSigned w32 r.leader_epoch ⌢
    IsList (IsSigned w32) r.in_sync ⌢ IsSigned w8 r.recovery ⌢ IsSigned w32 r.partition_epoch ⌢ NoTags

abbrev pub IsAlterPartitionTopicResult : AlterPartitionTopicResult → List ℕ → Type 0
IsAlterPartitionTopicResult t = IsId t.topic ⌢ IsList IsAlterPartitionResult t.partitions ⌢ NoTags

-- no throttling first
abbrev pub IsAlterPartitionReply : AlterPartitionReply → List ℕ → Type 0
IsAlterPartitionReply p = IsSigned w32 (pos 0) ⌢ IsSigned w16 p.error ⌢ IsList IsAlterPartitionTopicResult p.topics ⌢ NoTags

-- ---- the order in which they are read and written

abbrev pub broker_state : Schema BrokerState
broker_state = Structure (Int32 ▸ Int64 ▸ End)
    (λ (broker, (epoch, end)). record { broker = broker; epoch = epoch })
    (λ b. (b.broker, (b.epoch, tt))) (λ v. refl) (λ b. refl)

abbrev pub partition_report : Schema PartitionReport
partition_report = Structure (Int32 ▸ Int32 ▸ Array broker_state ▸ Int8 ▸ Int32 ▸ End)
    (λ (index, (leader_epoch, (in_sync, (recovery, (partition_epoch, end))))). record {
      index = index;
      leader_epoch = leader_epoch;
      in_sync = in_sync;
      recovery = recovery;
      partition_epoch = partition_epoch;
    })
    (λ r. (r.index, (r.leader_epoch, (r.in_sync, (r.recovery, (r.partition_epoch, tt)))))) (λ v. refl) (λ r. refl)

abbrev pub alter_partition_topic : Schema AlterPartitionTopic
alter_partition_topic = Structure (Uuid ▸ Array partition_report ▸ End)
    (λ (topic, (partitions, end)). record { topic = topic; partitions = partitions })
    (λ t. (t.topic, (t.partitions, tt))) (λ v. refl) (λ t. refl)

abbrev pub alter_partition : Schema AlterPartition
alter_partition = Structure (Int32 ▸ Int64 ▸ Array alter_partition_topic ▸ End)
    (λ (broker, (epoch, (topics, end))). record { broker = broker; epoch = epoch; topics = topics })
    (λ q. (q.broker, (q.epoch, (q.topics, tt)))) (λ v. refl) (λ q. refl)

abbrev pub alter_partition_result : Schema AlterPartitionResult
alter_partition_result = Structure (Int32 ▸ Int16 ▸ Int32 ▸ Int32 ▸ Array Int32 ▸ Int8 ▸ Int32 ▸ End)
    (λ (index, (error, (leader, (leader_epoch, (in_sync, (recovery, (partition_epoch, end))))))). record {
      index = index;
      error = error;
      leader = leader;
      leader_epoch = leader_epoch;
      in_sync = in_sync;
      recovery = recovery;
      partition_epoch = partition_epoch;
    })
    (λ r. (r.index, (r.error, (r.leader, (r.leader_epoch, (r.in_sync, (r.recovery, (r.partition_epoch, tt)))))))) (λ v. refl) (λ r. refl)

abbrev pub alter_partition_topic_result : Schema AlterPartitionTopicResult
alter_partition_topic_result = Structure (Uuid ▸ Array alter_partition_result ▸ End)
    (λ (topic, (partitions, end)). record { topic = topic; partitions = partitions })
    (λ t. (t.topic, (t.partitions, tt))) (λ v. refl) (λ t. refl)

-- no throttling first
abbrev pub alter_partition_reply : Schema AlterPartitionReply
alter_partition_reply = Structure (Constant (pos 0) Int32 ▸ Int16 ▸ Array alter_partition_topic_result ▸ End)
    (λ (_, (error, (topics, end))). record { error = error; topics = topics })
    (λ p. (tt, (p.error, (p.topics, tt)))) (λ v. refl) (λ p. refl)
