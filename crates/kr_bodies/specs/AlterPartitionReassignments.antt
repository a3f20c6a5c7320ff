-- AlterPartitionReassignments, key 45, version 0, after Kafka's published schemas: what its bytes and those of its reply stand for, and their layouts.
use Rattle.std.specs.Prelude.{List, ℕ, pos, None, refl}
use Rattle.std.specs.Int.{w16, w32}
use Rattle.kr_wire.specs.Grammar.{◌⌢◌, IsSigned, IsText, IsNull, IsList, IsDropped, NoTags, IsListOrNull}
use Rattle.kr_wire.specs.Schema.{Schema, ◌▸◌, Int16, Int32, Text, TextOrNull, Array, Dropped, Constant, Structure, End, ArrayOrNull}
use Rattle.kr_calls.specs.declared.alter_partition_reassignments.ReassignablePartition.{ReassignablePartition}
use Rattle.kr_calls.specs.declared.alter_partition_reassignments.ReassignableTopic.{ReassignableTopic}
use Rattle.kr_calls.specs.declared.alter_partition_reassignments.AlterPartitionReassignments.{AlterPartitionReassignments}
use Rattle.kr_calls.specs.declared.alter_partition_reassignments.ReassignablePartitionResponse.{ReassignablePartitionResponse}
use Rattle.kr_calls.specs.declared.alter_partition_reassignments.ReassignableTopicResponse.{ReassignableTopicResponse}
use Rattle.kr_calls.specs.declared.alter_partition_reassignments.AlterPartitionReassignmentsReply.{AlterPartitionReassignmentsReply}

-- ---- what bytes stand for

abbrev pub IsReassignablePartition : ReassignablePartition → List ℕ → Type 0
IsReassignablePartition r = IsSigned w32 r.index ⌢ IsListOrNull (IsSigned w32) r.replicas ⌢ NoTags

abbrev pub IsReassignableTopic : ReassignableTopic → List ℕ → Type 0
IsReassignableTopic t = IsText t.name ⌢ IsList IsReassignablePartition t.partitions ⌢ NoTags

-- the timeout is dropped
abbrev pub IsAlterPartitionReassignments : AlterPartitionReassignments → List ℕ → Type 0
IsAlterPartitionReassignments q = IsDropped (IsSigned w32) ⌢ IsList IsReassignableTopic q.topics ⌢ NoTags

-- no message at the end
abbrev pub IsReassignablePartitionResponse : ReassignablePartitionResponse → List ℕ → Type 0
IsReassignablePartitionResponse r = IsSigned w32 r.index ⌢ IsSigned w16 r.error ⌢ IsNull ⌢ NoTags

abbrev pub IsReassignableTopicResponse : ReassignableTopicResponse → List ℕ → Type 0
IsReassignableTopicResponse t = IsText t.name ⌢ IsList IsReassignablePartitionResponse t.partitions ⌢ NoTags

-- no throttling, error, no message, responses
abbrev pub IsAlterPartitionReassignmentsReply : AlterPartitionReassignmentsReply → List ℕ → Type 0
IsAlterPartitionReassignmentsReply p =
    IsSigned w32 (pos 0) ⌢ IsSigned w16 p.error ⌢ IsNull ⌢ IsList IsReassignableTopicResponse p.responses ⌢
    NoTags

-- ---- the order in which they are read and written

abbrev pub reassignable_partition : Schema ReassignablePartition
reassignable_partition = Structure (Int32 ▸ ArrayOrNull Int32 ▸ End)
    (λ (index, (replicas, end)). record { index = index; replicas = replicas })
    (λ r. (r.index, (r.replicas, tt))) (λ v. refl) (λ r. refl)

abbrev pub reassignable_topic : Schema ReassignableTopic
reassignable_topic = Structure (Text ▸ Array reassignable_partition ▸ End)
    (λ (name, (partitions, end)). record { name = name; partitions = partitions })
    (λ t. (t.name, (t.partitions, tt))) (λ v. refl) (λ t. refl)

-- the timeout is dropped
abbrev pub alter_partition_reassignments : Schema AlterPartitionReassignments
alter_partition_reassignments = Structure (Dropped Int32 ▸ Array reassignable_topic ▸ End)
    (λ (_, (topics, end)). record { topics = topics })
    (λ q. (tt, (q.topics, tt))) (λ v. refl) (λ q. refl)

-- no message at the end
abbrev pub reassignable_partition_response : Schema ReassignablePartitionResponse
reassignable_partition_response = Structure (Int32 ▸ Int16 ▸ Constant None TextOrNull ▸ End)
    (λ (index, (error, (_, end))). record { index = index; error = error })
    (λ r. (r.index, (r.error, (tt, tt)))) (λ v. refl) (λ r. refl)

abbrev pub reassignable_topic_response : Schema ReassignableTopicResponse
reassignable_topic_response = Structure (Text ▸ Array reassignable_partition_response ▸ End)
    (λ (name, (partitions, end)). record { name = name; partitions = partitions })
    (λ t. (t.name, (t.partitions, tt))) (λ v. refl) (λ t. refl)

-- no throttling, error, no message, responses
abbrev pub alter_partition_reassignments_reply : Schema AlterPartitionReassignmentsReply
alter_partition_reassignments_reply = Structure (Constant (pos 0) Int32 ▸ Int16 ▸ Constant None TextOrNull ▸ Array reassignable_topic_response ▸ End)
    (λ (_, (error, (_, (responses, end)))). record { error = error; responses = responses })
    (λ p. (tt, (p.error, (tt, (p.responses, tt))))) (λ v. refl) (λ p. refl)
