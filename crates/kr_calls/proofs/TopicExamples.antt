-- What is decided of topics, by computation: each refusal, and each kind of record.
use Rattle.std.specs.Prelude.{◌≡◌, ℕ, ℤ, pos, negsuc, false, List, [], ◌∷◌, slice_get, Option, Some, None, unwrap_or, Result, Ok, Err, codes}
use Rattle.std.proofs.Common.{refl}
use Rattle.kr_defs.specs.declared.record.Record.{Record}
use Rattle.kr_defs.specs.declared.record.Record.TheVariants as kinds
use Rattle.kr_defs.specs.Placed.{placed, racks_of, visit, visited}
use Rattle.kr_calls.specs.declared.errors.TheConstants.{INVALID_CONFIG, INVALID_PARTITIONS, INVALID_REPLICATION_FACTOR, INVALID_REPLICA_ASSIGNMENT, INVALID_REQUEST, INVALID_TOPIC_EXCEPTION, TOPIC_ALREADY_EXISTS, UNKNOWN_TOPIC_ID, UNKNOWN_TOPIC_OR_PARTITION}
use Rattle.kr_calls.specs.declared.deciding.Draft.{Draft}
use Rattle.kr_calls.specs.declared.create_topics.CreatableReplicaAssignment.{CreatableReplicaAssignment}
use Rattle.kr_calls.specs.declared.create_topics.CreatableTopic.{CreatableTopic}
use Rattle.kr_calls.specs.declared.create_topics.CreatableTopicConfig.{CreatableTopicConfig}
use Rattle.kr_calls.specs.declared.create_topics.CreatableTopicResult.{CreatableTopicResult}
use Rattle.kr_calls.specs.declared.create_partitions.CreatePartitionsAssignment.{CreatePartitionsAssignment}
use Rattle.kr_calls.specs.declared.create_partitions.CreatePartitionsTopic.{CreatePartitionsTopic}
use Rattle.kr_calls.specs.declared.create_partitions.CreatePartitionsTopicResult.{CreatePartitionsTopicResult}
use Rattle.kr_calls.specs.declared.delete_topics.DeletableTopicResult.{DeletableTopicResult}
use Rattle.kr_calls.specs.CreatePartitions as create_partitions
use Rattle.kr_calls.specs.CreateTopics as create_topics
use Rattle.kr_calls.specs.DeleteTopics as delete_topics
use Rattle.kr_calls.proofs.Cluster.{broker, image, options, whole}

-- ---- topics that are made

abbrev asks : CreatableTopic
asks = record { name = codes "u"; partitions = pos 1; factor = pos 3; assignments = []; configs = [] }

abbrev assigned_to : List ℤ → CreatableReplicaAssignment
assigned_to brokers = record { index = pos 0; brokers = brokers }

abbrev asks_for : List CreatableReplicaAssignment → CreatableTopic
asks_for assignments = record asks { partitions = negsuc 0; factor = negsuc 0; assignments = assignments }

abbrev create : CreatableTopic → Result (Draft CreatableTopicResult) ℤ
create entry = create_topics.rule options false image (pos 30) entry

bad_name : create (record asks { name = codes "a/b" }) ≡ Err INVALID_TOPIC_EXCEPTION
bad_name = refl

name_exists : create (record asks { name = codes "t.a" }) ≡ Err TOPIC_ALREADY_EXISTS
name_exists = refl

names_agree_up_to_dots : create (record asks { name = codes "t_a" }) ≡ Err INVALID_TOPIC_EXCEPTION
names_agree_up_to_dots = refl

partitions_beside_assignments : create (record (asks_for (assigned_to (pos 1 ∷ []) ∷ [])) { partitions = pos 1 }) ≡ Err INVALID_REQUEST
partitions_beside_assignments = refl

factor_beside_assignments : create (record (asks_for (assigned_to (pos 1 ∷ []) ∷ [])) { factor = pos 1 }) ≡ Err INVALID_REQUEST
factor_beside_assignments = refl

index_missing : create (asks_for (record (assigned_to (pos 1 ∷ [])) { index = pos 1 } ∷ [])) ≡ Err INVALID_REPLICA_ASSIGNMENT
index_missing = refl

index_twice : create (asks_for (assigned_to (pos 1 ∷ []) ∷ assigned_to (pos 2 ∷ []) ∷ [])) ≡ Err INVALID_REPLICA_ASSIGNMENT
index_twice = refl

no_replicas : create (asks_for (assigned_to [] ∷ [])) ≡ Err INVALID_REPLICA_ASSIGNMENT
no_replicas = refl

replica_twice : create (asks_for (assigned_to (pos 1 ∷ pos 1 ∷ []) ∷ [])) ≡ Err INVALID_REPLICA_ASSIGNMENT
replica_twice = refl

lists_differ : create (asks_for (assigned_to (pos 1 ∷ pos 2 ∷ []) ∷ record (assigned_to (pos 1 ∷ [])) { index = pos 1 } ∷ [])) ≡ Err INVALID_REPLICA_ASSIGNMENT
lists_differ = refl

not_registered : create (asks_for (assigned_to (pos 1 ∷ pos 9 ∷ []) ∷ [])) ≡ Err INVALID_REPLICA_ASSIGNMENT
not_registered = refl

none_active : create (asks_for (assigned_to (pos 4 ∷ []) ∷ [])) ≡ Err INVALID_REPLICA_ASSIGNMENT
none_active = refl

no_partitions : create (record asks { partitions = pos 0 }) ≡ Err INVALID_PARTITIONS
no_partitions = refl

no_factor : create (record asks { factor = pos 0 }) ≡ Err INVALID_REPLICATION_FACTOR
no_factor = refl

-- three brokers are active
many_replicas : create (record asks { factor = pos 4 }) ≡ Err INVALID_REPLICATION_FACTOR
many_replicas = refl

setting_without_value : create (record asks { configs = record { name = codes "k"; value = None } ∷ [] }) ≡ Err INVALID_CONFIG
setting_without_value = refl

setting_with_bad_key : create (record asks { configs = record { name = []; value = Some [] } ∷ [] }) ≡ Err INVALID_CONFIG
setting_with_bad_key = refl

setting_with_bad_value : create (record asks { configs = record { name = codes "min.insync.replicas"; value = Some (codes "0") } ∷ [] }) ≡ Err INVALID_CONFIG
setting_with_bad_value = refl

-- 7 * 2 ^ 64 + 31
abbrev id : ℕ
id = 129127208515966861343

abbrev made : List ℤ → List ℤ → Record
made replicas in_sync = kinds.Partition (pos 0) id (record {
  replicas = replicas;
  in_sync = in_sync;
  eligible = [];
  last_known = [];
  adding = [];
  removing = [];
  leader = unwrap_or (slice_get in_sync 0) (negsuc 0);
  recovery = pos 0;
  leader_epoch = pos 0;
  partition_epoch = pos 0;
})

-- one rack of three brokers: visit number k begins with broker 30 mod 3
placed_topic : create asks ≡ Ok (record {
  records = kinds.Topic (codes "u") id ∷ made (pos 1 ∷ pos 2 ∷ pos 3 ∷ []) (pos 1 ∷ pos 2 ∷ pos 3 ∷ []) ∷ [];
  answer = record { name = codes "u"; topic = id; error = pos 0; partitions = pos 1; factor = pos 3 };
})
unfolding placed visited visit racks_of
placed_topic = refl

-- broker 4 is fenced
assigned_topic : create (asks_for (assigned_to (pos 4 ∷ pos 2 ∷ []) ∷ [])) ≡ Ok (record {
  records = kinds.Topic (codes "u") id ∷ made (pos 4 ∷ pos 2 ∷ []) (pos 2 ∷ []) ∷ [];
  answer = record { name = codes "u"; topic = id; error = pos 0; partitions = pos 1; factor = pos 2 };
})
assigned_topic = refl

abbrev settings : List (List ℕ) → List CreatableTopicConfig
settings [] = []
settings (value ∷ values) = record { name = codes "k"; value = Some value } ∷ settings values

abbrev set : List ℕ → Record
set value = kinds.Config (pos 2) (codes "u") (codes "k") (Some value)

two_values : create_topics.settings_records [] (codes "u") (settings (codes "1" ∷ codes "2" ∷ [])) ≡ set (codes "1") ∷ set (codes "2") ∷ []
two_values = refl

same_value : create_topics.settings_records [] (codes "u") (settings (codes "1" ∷ codes "1" ∷ [])) ≡ set (codes "1") ∷ []
same_value = refl

value_again : create_topics.settings_records [] (codes "u") (settings (codes "1" ∷ codes "2" ∷ codes "1" ∷ []))
    ≡ set (codes "1") ∷ set (codes "2") ∷ set (codes "1") ∷ []
value_again = refl

-- ---- topics that go

neither_name_nor_id : delete_topics.rule image (pos 30) (record { name = None; topic = 0 }) ≡ Err INVALID_REQUEST
neither_name_nor_id = refl

name_and_id : delete_topics.rule image (pos 30) (record { name = Some (codes "t.a"); topic = 77 }) ≡ Err INVALID_REQUEST
name_and_id = refl

unknown_name : delete_topics.rule image (pos 30) (record { name = Some (codes "x"); topic = 0 }) ≡ Err UNKNOWN_TOPIC_OR_PARTITION
unknown_name = refl

unknown_id : delete_topics.rule image (pos 30) (record { name = None; topic = 78 }) ≡ Err UNKNOWN_TOPIC_ID
unknown_id = refl

abbrev gone : Draft DeletableTopicResult
gone = record { records = kinds.RemoveTopic 77 ∷ []; answer = record { name = Some (codes "t.a"); topic = 77; error = pos 0 } }

deleted_by_name : delete_topics.rule image (pos 30) (record { name = Some (codes "t.a"); topic = 0 }) ≡ Ok gone
deleted_by_name = refl

deleted_by_id : delete_topics.rule image (pos 30) (record { name = None; topic = 77 }) ≡ Ok gone
deleted_by_id = refl

-- ---- topics that grow

abbrev grows : ℤ → Option (List CreatePartitionsAssignment) → CreatePartitionsTopic
grows count assignments = record { name = codes "t.a"; count = count; assignments = assignments }

abbrev grow : CreatePartitionsTopic → Result (Draft CreatePartitionsTopicResult) ℤ
grow entry = create_partitions.rule image (pos 30) entry

unknown_topic : create_partitions.rule image (pos 30) (record (grows (pos 2) None) { name = codes "x" }) ≡ Err UNKNOWN_TOPIC_OR_PARTITION
unknown_topic = refl

no_more : grow (grows (pos 1) None) ≡ Err INVALID_PARTITIONS
no_more = refl

-- the topic has partition 1 alone
first_missing : create_partitions.rule (record image { partitions = ((77, pos 1), whole) ∷ [] }) (pos 30) (grows (pos 3) None) ≡ Err INVALID_REPLICA_ASSIGNMENT
first_missing = refl

-- one new partition, and no list
too_few_lists : grow (grows (pos 2) (Some [])) ≡ Err INVALID_REPLICA_ASSIGNMENT
too_few_lists = refl

-- the first partition has three replicas
short_list : grow (grows (pos 2) (Some (record { brokers = pos 1 ∷ pos 2 ∷ [] } ∷ []))) ≡ Err INVALID_REPLICA_ASSIGNMENT
short_list = refl

too_few_active : create_partitions.rule (record image { brokers = (pos 1, broker (pos 10) false) ∷ (pos 2, broker (pos 11) false) ∷ [] }) (pos 30) (grows (pos 2) None) ≡ Err INVALID_REPLICATION_FACTOR
too_few_active = refl

grown : grow (grows (pos 2) (Some (record { brokers = pos 3 ∷ pos 4 ∷ pos 1 ∷ [] } ∷ []))) ≡ Ok (record {
  records = kinds.Partition (pos 1) 77 (record whole { replicas = pos 3 ∷ pos 4 ∷ pos 1 ∷ []; in_sync = pos 3 ∷ pos 1 ∷ []; leader = pos 3; leader_epoch = pos 0; partition_epoch = pos 0 }) ∷ [];
  answer = record { name = codes "t.a"; error = pos 0 };
})
grown = refl
