-- ListPartitionReassignments, key 46, version 0, after Kafka's published schemas: what its bytes and those of its reply stand for, and their layouts.
use Rattle.std.specs.Prelude.{List, ℕ, pos, None, refl}
use Rattle.std.specs.Int.{w16, w32}
use Rattle.kr_wire.specs.Grammar.{◌⌢◌, IsSigned, IsText, IsNull, IsList, IsDropped, NoTags, IsListOrNull}
use Rattle.kr_wire.specs.Schema.{Schema, ◌▸◌, Int16, Int32, Text, TextOrNull, Array, Dropped, Constant, Structure, End, ArrayOrNull}
use Rattle.kr_calls.specs.declared.list_partition_reassignments.ListedTopic.{ListedTopic}
use Rattle.kr_calls.specs.declared.list_partition_reassignments.ListPartitionReassignments.{ListPartitionReassignments}
use Rattle.kr_calls.specs.declared.list_partition_reassignments.OngoingPartitionReassignment.{OngoingPartitionReassignment}
use Rattle.kr_calls.specs.declared.list_partition_reassignments.OngoingTopicReassignment.{OngoingTopicReassignment}
use Rattle.kr_calls.specs.declared.list_partition_reassignments.ListPartitionReassignmentsReply.{ListPartitionReassignmentsReply}

-- ---- what bytes stand for

abbrev pub IsListedTopic : ListedTopic → List ℕ → Type 0
IsListedTopic t = IsText t.name ⌢ IsList (IsSigned w32) t.partitions ⌢ NoTags

-- the timeout is dropped
abbrev pub IsListPartitionReassignments : ListPartitionReassignments → List ℕ → Type 0
IsListPartitionReassignments q = IsDropped (IsSigned w32) ⌢ IsListOrNull IsListedTopic q.topics ⌢ NoTags

abbrev pub IsOngoingPartitionReassignment : OngoingPartitionReassignment → List ℕ → Type 0
IsOngoingPartitionReassignment r =
    IsSigned w32 r.index ⌢ IsList (IsSigned w32) r.replicas ⌢ IsList (IsSigned w32) r.adding ⌢
    IsList (IsSigned w32) r.removing ⌢ NoTags

abbrev pub IsOngoingTopicReassignment : OngoingTopicReassignment → List ℕ → Type 0
IsOngoingTopicReassignment t = IsText t.name ⌢ IsList IsOngoingPartitionReassignment t.partitions ⌢ NoTags

-- no throttling, error, no message, topics
abbrev pub IsListPartitionReassignmentsReply : ListPartitionReassignmentsReply → List ℕ → Type 0
IsListPartitionReassignmentsReply p =
    IsSigned w32 (pos 0) ⌢ IsSigned w16 p.error ⌢ IsNull ⌢ IsList IsOngoingTopicReassignment p.topics ⌢ NoTags

-- ---- the order in which they are read and written

abbrev pub listed_topic : Schema ListedTopic
listed_topic = Structure (Text ▸ Array Int32 ▸ End)
    (λ (name, (partitions, end)). record { name = name; partitions = partitions })
    (λ t. (t.name, (t.partitions, tt))) (λ v. refl) (λ t. refl)

-- the timeout is dropped
abbrev pub list_partition_reassignments : Schema ListPartitionReassignments
list_partition_reassignments = Structure (Dropped Int32 ▸ ArrayOrNull listed_topic ▸ End)
    (λ (_, (topics, end)). record { topics = topics })
    (λ q. (tt, (q.topics, tt))) (λ v. refl) (λ q. refl)

abbrev pub ongoing_partition_reassignment : Schema OngoingPartitionReassignment
ongoing_partition_reassignment = Structure (Int32 ▸ Array Int32 ▸ Array Int32 ▸ Array Int32 ▸ End)
    (λ (index, (replicas, (adding, (removing, end)))). record { index = index; replicas = replicas; adding = adding; removing = removing })
    (λ r. (r.index, (r.replicas, (r.adding, (r.removing, tt))))) (λ v. refl) (λ r. refl)

abbrev pub ongoing_topic_reassignment : Schema OngoingTopicReassignment
ongoing_topic_reassignment = Structure (Text ▸ Array ongoing_partition_reassignment ▸ End)
    (λ (name, (partitions, end)). record { name = name; partitions = partitions })
    (λ t. (t.name, (t.partitions, tt))) (λ v. refl) (λ t. refl)

-- no throttling, error, no message, topics
abbrev pub list_partition_reassignments_reply : Schema ListPartitionReassignmentsReply
list_partition_reassignments_reply = Structure (Constant (pos 0) Int32 ▸ Int16 ▸ Constant None TextOrNull ▸ Array ongoing_topic_reassignment ▸ End)
    (λ (_, (error, (_, (topics, end)))). record { error = error; topics = topics })
    (λ p. (tt, (p.error, (tt, (p.topics, tt))))) (λ v. refl) (λ p. refl)
