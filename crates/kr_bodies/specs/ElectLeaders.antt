-- ElectLeaders, key 43, version 2, after Kafka's published schemas: what its bytes and those of its reply stand for, and their layouts.
use Rattle.std.specs.Prelude.{List, ℕ, pos, None, refl}
use Rattle.std.specs.Int.{w16, w32, w8}
use Rattle.kr_wire.specs.Grammar.{◌⌢◌, IsSigned, IsText, IsNull, IsList, IsDropped, NoTags, IsListOrNull}
use Rattle.kr_wire.specs.Schema.{Schema, ◌▸◌, Int16, Int32, Text, TextOrNull, Array, Dropped, Constant, Structure, End, ArrayOrNull, Int8}
use Rattle.kr_calls.specs.declared.elect_leaders.ElectLeadersTopic.{ElectLeadersTopic}
use Rattle.kr_calls.specs.declared.elect_leaders.ElectLeaders.{ElectLeaders}
use Rattle.kr_calls.specs.declared.elect_leaders.PartitionElectionResult.{PartitionElectionResult}
use Rattle.kr_calls.specs.declared.elect_leaders.ReplicaElectionResult.{ReplicaElectionResult}
use Rattle.kr_calls.specs.declared.elect_leaders.ElectLeadersReply.{ElectLeadersReply}

-- ---- what bytes stand for

abbrev pub IsElectLeadersTopic : ElectLeadersTopic → List ℕ → Type 0
IsElectLeadersTopic t = IsText t.topic ⌢ IsList (IsSigned w32) t.partitions ⌢ NoTags

-- the timeout is dropped
abbrev pub IsElectLeaders : ElectLeaders → List ℕ → Type 0
IsElectLeaders q = IsSigned w8 q.kind ⌢ IsListOrNull IsElectLeadersTopic q.topics ⌢ IsDropped (IsSigned w32) ⌢ NoTags

-- no message at the end
abbrev pub IsPartitionElectionResult : PartitionElectionResult → List ℕ → Type 0
IsPartitionElectionResult r = IsSigned w32 r.index ⌢ IsSigned w16 r.error ⌢ IsNull ⌢ NoTags

abbrev pub IsReplicaElectionResult : ReplicaElectionResult → List ℕ → Type 0
IsReplicaElectionResult t = IsText t.topic ⌢ IsList IsPartitionElectionResult t.partitions ⌢ NoTags

-- no throttling first
abbrev pub IsElectLeadersReply : ElectLeadersReply → List ℕ → Type 0
IsElectLeadersReply p = IsSigned w32 (pos 0) ⌢ IsSigned w16 p.error ⌢ IsList IsReplicaElectionResult p.results ⌢ NoTags

-- ---- the order in which they are read and written

abbrev pub elect_leaders_topic : Schema ElectLeadersTopic
elect_leaders_topic = Structure (Text ▸ Array Int32 ▸ End)
    (λ (topic, (partitions, end)). record { topic = topic; partitions = partitions })
    (λ t. (t.topic, (t.partitions, tt))) (λ v. refl) (λ t. refl)

-- the timeout is dropped
abbrev pub elect_leaders : Schema ElectLeaders
elect_leaders = Structure (Int8 ▸ ArrayOrNull elect_leaders_topic ▸ Dropped Int32 ▸ End)
    (λ (kind, (topics, (_, end))). record { kind = kind; topics = topics })
    (λ q. (q.kind, (q.topics, (tt, tt)))) (λ v. refl) (λ q. refl)

-- no message at the end
abbrev pub partition_election_result : Schema PartitionElectionResult
partition_election_result = Structure (Int32 ▸ Int16 ▸ Constant None TextOrNull ▸ End)
    (λ (index, (error, (_, end))). record { index = index; error = error })
    (λ r. (r.index, (r.error, (tt, tt)))) (λ v. refl) (λ r. refl)

abbrev pub replica_election_result : Schema ReplicaElectionResult
replica_election_result = Structure (Text ▸ Array partition_election_result ▸ End)
    (λ (topic, (partitions, end)). record { topic = topic; partitions = partitions })
    (λ t. (t.topic, (t.partitions, tt))) (λ v. refl) (λ t. refl)

-- no throttling first
abbrev pub elect_leaders_reply : Schema ElectLeadersReply
elect_leaders_reply = Structure (Constant (pos 0) Int32 ▸ Int16 ▸ Array replica_election_result ▸ End)
    (λ (_, (error, (results, end))). record { error = error; results = results })
    (λ p. (tt, (p.error, (p.results, tt)))) (λ v. refl) (λ p. refl)
