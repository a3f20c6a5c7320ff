-- CreatePartitions, key 37, version 3, after Kafka's published schemas: what its bytes and those of its reply stand for, and their layouts.
use Rattle.std.specs.Prelude.{List, ℕ, pos, None, refl}
use Rattle.std.specs.Int.{w16, w32}
use Rattle.kr_wire.specs.Grammar.{◌⌢◌, IsSigned, IsBool, IsText, IsNull, IsList, IsDropped, NoTags, IsListOrNull}
use Rattle.kr_wire.specs.Schema.{Schema, ◌▸◌, Int16, Int32, Boolean, Text, TextOrNull, Array, Dropped, Constant, Structure, End, ArrayOrNull}
use Rattle.kr_calls.specs.declared.create_partitions.CreatePartitionsAssignment.{CreatePartitionsAssignment}
use Rattle.kr_calls.specs.declared.create_partitions.CreatePartitionsTopic.{CreatePartitionsTopic}
use Rattle.kr_calls.specs.declared.create_partitions.CreatePartitions.{CreatePartitions}
use Rattle.kr_calls.specs.declared.create_partitions.CreatePartitionsTopicResult.{CreatePartitionsTopicResult}
use Rattle.kr_calls.specs.declared.create_partitions.CreatePartitionsReply.{CreatePartitionsReply}

-- ---- what bytes stand for

abbrev pub IsCreatePartitionsAssignment : CreatePartitionsAssignment → List ℕ → Type 0
IsCreatePartitionsAssignment a = IsList (IsSigned w32) a.brokers ⌢ NoTags

abbrev pub IsCreatePartitionsTopic : CreatePartitionsTopic → List ℕ → Type 0
IsCreatePartitionsTopic t = IsText t.name ⌢ IsSigned w32 t.count ⌢ IsListOrNull IsCreatePartitionsAssignment t.assignments ⌢ NoTags

-- the timeout is dropped
abbrev pub IsCreatePartitions : CreatePartitions → List ℕ → Type 0
IsCreatePartitions q = IsList IsCreatePartitionsTopic q.topics ⌢ IsDropped (IsSigned w32) ⌢ IsBool q.validate_only ⌢ NoTags

-- no message at the end
abbrev pub IsCreatePartitionsTopicResult : CreatePartitionsTopicResult → List ℕ → Type 0
IsCreatePartitionsTopicResult t = IsText t.name ⌢ IsSigned w16 t.error ⌢ IsNull ⌢ NoTags

-- no throttling first
abbrev pub IsCreatePartitionsReply : CreatePartitionsReply → List ℕ → Type 0
IsCreatePartitionsReply p = IsSigned w32 (pos 0) ⌢ IsList IsCreatePartitionsTopicResult p.results ⌢ NoTags

-- ---- the order in which they are read and written

abbrev pub create_partitions_assignment : Schema CreatePartitionsAssignment
create_partitions_assignment = Structure (Array Int32 ▸ End)
    (λ (brokers, end). record { brokers = brokers })
    (λ a. (a.brokers, tt)) (λ v. refl) (λ a. refl)

abbrev pub create_partitions_topic : Schema CreatePartitionsTopic
create_partitions_topic = Structure (Text ▸ Int32 ▸ ArrayOrNull create_partitions_assignment ▸ End)
    (λ (name, (count, (assignments, end))). record { name = name; count = count; assignments = assignments })
    (λ t. (t.name, (t.count, (t.assignments, tt)))) (λ v. refl) (λ t. refl)

-- the timeout is dropped
abbrev pub create_partitions : Schema CreatePartitions
create_partitions = Structure (Array create_partitions_topic ▸ Dropped Int32 ▸ Boolean ▸ End)
    (λ (topics, (_, (validate_only, end))). record { topics = topics; validate_only = validate_only })
    (λ q. (q.topics, (tt, (q.validate_only, tt)))) (λ v. refl) (λ q. refl)

-- no message at the end
abbrev pub create_partitions_topic_result : Schema CreatePartitionsTopicResult
create_partitions_topic_result = Structure (Text ▸ Int16 ▸ Constant None TextOrNull ▸ End)
    (λ (name, (error, (_, end))). record { name = name; error = error })
    (λ t. (t.name, (t.error, (tt, tt)))) (λ v. refl) (λ t. refl)

-- no throttling first
abbrev pub create_partitions_reply : Schema CreatePartitionsReply
create_partitions_reply = Structure (Constant (pos 0) Int32 ▸ Array create_partitions_topic_result ▸ End)
    (λ (_, (results, end)). record { results = results })
    (λ p. (tt, (p.results, tt))) (λ v. refl) (λ p. refl)
