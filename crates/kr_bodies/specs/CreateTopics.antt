-- CreateTopics, key 19, version 7, after Kafka's published schemas: what its bytes and those of its reply stand for, and their layouts.
use Rattle.std.specs.Prelude.{List, ℕ, pos, None, refl}
use Rattle.std.specs.Int.{w16, w32}
use Rattle.kr_wire.specs.Grammar.{◌⌢◌, IsSigned, IsBool, IsId, IsText, IsTextOrNull, IsNull, IsList, IsDropped, NoTags}
use Rattle.kr_wire.specs.Schema.{Schema, ◌▸◌, Int16, Int32, Boolean, Uuid, Text, TextOrNull, Array, Dropped, Constant, Structure, End}
use Rattle.kr_calls.specs.declared.create_topics.CreatableReplicaAssignment.{CreatableReplicaAssignment}
use Rattle.kr_calls.specs.declared.create_topics.CreatableTopicConfig.{CreatableTopicConfig}
use Rattle.kr_calls.specs.declared.create_topics.CreatableTopic.{CreatableTopic}
use Rattle.kr_calls.specs.declared.create_topics.CreateTopics.{CreateTopics}
use Rattle.kr_calls.specs.declared.create_topics.CreatableTopicResult.{CreatableTopicResult}
use Rattle.kr_calls.specs.declared.create_topics.CreateTopicsReply.{CreateTopicsReply}

-- ---- what bytes stand for

abbrev pub IsCreatableReplicaAssignment : CreatableReplicaAssignment → List ℕ → Type 0
IsCreatableReplicaAssignment a = IsSigned w32 a.index ⌢ IsList (IsSigned w32) a.brokers ⌢ NoTags

abbrev pub IsCreatableTopicConfig : CreatableTopicConfig → List ℕ → Type 0
IsCreatableTopicConfig c = IsText c.name ⌢ IsTextOrNull c.value ⌢ NoTags

abbrev pub IsCreatableTopic : CreatableTopic → List ℕ → Type 0
IsCreatableTopic t =
    IsText t.name ⌢ IsSigned w32 t.partitions ⌢ IsSigned w16 t.factor ⌢
    IsList IsCreatableReplicaAssignment t.assignments ⌢ IsList IsCreatableTopicConfig t.configs ⌢ NoTags

-- the timeout is dropped
abbrev pub IsCreateTopics : CreateTopics → List ℕ → Type 0
IsCreateTopics q = IsList IsCreatableTopic q.topics ⌢ IsDropped (IsSigned w32) ⌢ IsBool q.validate_only ⌢ NoTags

-- no message behind the error, and at the end no list of settings
abbrev pub IsCreatableTopicResult : CreatableTopicResult → List ℕ → Type 0
IsCreatableTopicResult t =
    IsText t.name ⌢ IsId t.topic ⌢ IsSigned w16 t.error ⌢ IsNull ⌢ IsSigned w32 t.partitions ⌢
    IsSigned w16 t.factor ⌢ IsNull ⌢ NoTags

-- no throttling first
abbrev pub IsCreateTopicsReply : CreateTopicsReply → List ℕ → Type 0
IsCreateTopicsReply p = IsSigned w32 (pos 0) ⌢ IsList IsCreatableTopicResult p.topics ⌢ NoTags

-- ---- the order in which they are read and written

abbrev pub creatable_replica_assignment : Schema CreatableReplicaAssignment
creatable_replica_assignment = Structure (Int32 ▸ Array Int32 ▸ End)
    (λ (index, (brokers, end)). record { index = index; brokers = brokers })
    (λ a. (a.index, (a.brokers, tt))) (λ v. refl) (λ a. refl)

abbrev pub creatable_topic_config : Schema CreatableTopicConfig
creatable_topic_config = Structure (Text ▸ TextOrNull ▸ End)
    (λ (name, (value, end)). record { name = name; value = value })
    (λ c. (c.name, (c.value, tt))) (λ v. refl) (λ c. refl)

abbrev pub creatable_topic : Schema CreatableTopic
creatable_topic = Structure (Text ▸ Int32 ▸ Int16 ▸ Array creatable_replica_assignment ▸ Array creatable_topic_config ▸ End)
    (λ (name, (partitions, (factor, (assignments, (configs, end))))). record {
      name = name;
      partitions = partitions;
      factor = factor;
      assignments = assignments;
      configs = configs;
    })
    (λ t. (t.name, (t.partitions, (t.factor, (t.assignments, (t.configs, tt)))))) (λ v. refl) (λ t. refl)

-- the timeout is dropped
abbrev pub create_topics : Schema CreateTopics
create_topics = Structure (Array creatable_topic ▸ Dropped Int32 ▸ Boolean ▸ End)
    (λ (topics, (_, (validate_only, end))). record { topics = topics; validate_only = validate_only })
    (λ q. (q.topics, (tt, (q.validate_only, tt)))) (λ v. refl) (λ q. refl)

-- no message behind the error, and at the end no list of settings
abbrev pub creatable_topic_result : Schema CreatableTopicResult
creatable_topic_result = Structure (Text ▸ Uuid ▸ Int16 ▸ Constant None TextOrNull ▸ Int32 ▸ Int16 ▸ Constant None TextOrNull ▸ End)
    (λ (name, (topic, (error, (_, (partitions, (factor, (_, end))))))). record {
      name = name;
      topic = topic;
      error = error;
      partitions = partitions;
      factor = factor;
    })
    (λ t. (t.name, (t.topic, (t.error, (tt, (t.partitions, (t.factor, (tt, tt)))))))) (λ v. refl) (λ t. refl)

-- no throttling first
abbrev pub create_topics_reply : Schema CreateTopicsReply
create_topics_reply = Structure (Constant (pos 0) Int32 ▸ Array creatable_topic_result ▸ End)
    (λ (_, (topics, end)). record { topics = topics })
    (λ p. (tt, (p.topics, tt))) (λ v. refl) (λ p. refl)
