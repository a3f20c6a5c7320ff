-- Metadata, key 3, version 12, after Kafka's published schemas: what its bytes and those of its reply stand for, and their layouts.
use Rattle.std.specs.Prelude.{List, ℕ, pos, refl}
use Rattle.std.specs.Int.{w16, w32}
use Rattle.kr_wire.specs.Grammar.{◌⌢◌, IsSigned, IsBool, IsId, IsText, IsTextOrNull, IsList, IsDropped, NoTags, IsListOrNull}
use Rattle.kr_wire.specs.Schema.{Schema, ◌▸◌, Int16, Int32, Boolean, Uuid, Text, TextOrNull, Array, Dropped, Constant, Structure, End, ArrayOrNull}
use Rattle.kr_calls.specs.declared.metadata.MetadataRequestTopic.{MetadataRequestTopic}
use Rattle.kr_calls.specs.declared.metadata.Metadata.{Metadata}
use Rattle.kr_calls.specs.declared.metadata.MetadataBroker.{MetadataBroker}
use Rattle.kr_calls.specs.declared.metadata.MetadataPartition.{MetadataPartition}
use Rattle.kr_calls.specs.declared.metadata.MetadataTopic.{MetadataTopic}
use Rattle.kr_calls.specs.declared.metadata.MetadataReply.{MetadataReply}

-- ---- what bytes stand for

abbrev pub IsMetadataRequestTopic : MetadataRequestTopic → List ℕ → Type 0
IsMetadataRequestTopic t = IsId t.topic ⌢ IsTextOrNull t.name ⌢ NoTags

-- whether topics are to be made, and their operations to be told, is dropped
abbrev pub IsMetadata : Metadata → List ℕ → Type 0
IsMetadata q = IsListOrNull IsMetadataRequestTopic q.topics ⌢ IsDropped IsBool ⌢ IsDropped IsBool ⌢ NoTags

abbrev pub IsMetadataBroker : MetadataBroker → List ℕ → Type 0
IsMetadataBroker b = IsSigned w32 b.id ⌢ IsText b.host ⌢ IsSigned w32 b.port ⌢ IsTextOrNull b.rack ⌢ NoTags

abbrev pub IsMetadataPartition : MetadataPartition → List ℕ → Type 0
IsMetadataPartition r =
    IsSigned w16 r.error ⌢ IsSigned w32 r.index ⌢ IsSigned w32 r.leader ⌢ IsSigned w32 r.leader_epoch ⌢
    IsList (IsSigned w32) r.replicas ⌢ IsList (IsSigned w32) r.in_sync ⌢ IsList (IsSigned w32) r.offline ⌢
    NoTags

abbrev pub IsMetadataTopic : MetadataTopic → List ℕ → Type 0
IsMetadataTopic t =
    IsSigned w16 t.error ⌢ IsTextOrNull t.name ⌢ IsId t.topic ⌢ IsBool t.internal ⌢
    IsList IsMetadataPartition t.partitions ⌢ IsSigned w32 t.operations ⌢ NoTags

-- no throttling first
abbrev pub IsMetadataReply : MetadataReply → List ℕ → Type 0
IsMetadataReply p =
    IsSigned w32 (pos 0) ⌢ IsList IsMetadataBroker p.brokers ⌢ IsTextOrNull p.cluster ⌢
    IsSigned w32 p.controller ⌢ IsList IsMetadataTopic p.topics ⌢ NoTags

-- ---- the order in which they are read and written

abbrev pub metadata_request_topic : Schema MetadataRequestTopic
metadata_request_topic = Structure (Uuid ▸ TextOrNull ▸ End)
    (λ (topic, (name, end)). record { topic = topic; name = name })
    (λ t. (t.topic, (t.name, tt))) (λ v. refl) (λ t. refl)

-- whether topics are to be made, and their operations to be told, is dropped
abbrev pub metadata : Schema Metadata
metadata = Structure (ArrayOrNull metadata_request_topic ▸ Dropped Boolean ▸ Dropped Boolean ▸ End)
    (λ (topics, (_, (_, end))). record { topics = topics })
    (λ q. (q.topics, (tt, (tt, tt)))) (λ v. refl) (λ q. refl)

abbrev pub metadata_broker : Schema MetadataBroker
metadata_broker = Structure (Int32 ▸ Text ▸ Int32 ▸ TextOrNull ▸ End)
    (λ (id, (host, (port, (rack, end)))). record { id = id; host = host; port = port; rack = rack })
    (λ b. (b.id, (b.host, (b.port, (b.rack, tt))))) (λ v. refl) (λ b. refl)

abbrev pub metadata_partition : Schema MetadataPartition
metadata_partition = Structure (Int16 ▸ Int32 ▸ Int32 ▸ Int32 ▸ Array Int32 ▸ Array Int32 ▸ Array Int32 ▸ End)
    (λ (error, (index, (leader, (leader_epoch, (replicas, (in_sync, (offline, end))))))). record {
      error = error;
      index = index;
      leader = leader;
      leader_epoch = leader_epoch;
      replicas = replicas;
      in_sync = in_sync;
      offline = offline;
    })
    (λ r. (r.error, (r.index, (r.leader, (r.leader_epoch, (r.replicas, (r.in_sync, (r.offline, tt)))))))) (λ v. refl) (λ r. refl)

abbrev pub metadata_topic : Schema MetadataTopic
metadata_topic = Structure (Int16 ▸ TextOrNull ▸ Uuid ▸ Boolean ▸ Array metadata_partition ▸ Int32 ▸ End)
    (λ (error, (name, (topic, (internal, (partitions, (operations, end)))))). record {
      error = error;
      name = name;
      topic = topic;
      internal = internal;
      partitions = partitions;
      operations = operations;
    })
    (λ t. (t.error, (t.name, (t.topic, (t.internal, (t.partitions, (t.operations, tt))))))) (λ v. refl) (λ t. refl)

-- no throttling first
abbrev pub metadata_reply : Schema MetadataReply
metadata_reply = Structure (Constant (pos 0) Int32 ▸ Array metadata_broker ▸ TextOrNull ▸ Int32 ▸ Array metadata_topic ▸ End)
    (λ (_, (brokers, (cluster, (controller, (topics, end))))). record {
      brokers = brokers;
      cluster = cluster;
      controller = controller;
      topics = topics;
    })
    (λ p. (tt, (p.brokers, (p.cluster, (p.controller, (p.topics, tt)))))) (λ v. refl) (λ p. refl)
