-- The changes of the partitions whose keys are listed, for a broker or another cause (this project's own).
use Rattle.std.specs.Prelude.{◌≡◌, ℕ, ℤ, Bool, true, false, List, [], Option, None, fold, filter, flat_map, negsuc}
use Rattle.std.specs.BTreeMap.Range.{range_contains}
use Rattle.std.specs.List.{cons_option, list_any}
use Rattle.std.specs.Option.{option_map_or}
use Rattle.std.specs.Ordering.{int_eq}
use Rattle.std.specs.declared.ops.Bound.TheVariants.{Excluded, Included}
use Rattle.kr_defs.specs.declared.limits.TheConstants.{LAST_INDEX}
use Rattle.kr_defs.specs.declared.partition.Partition.{Partition}
use Rattle.kr_defs.specs.declared.partition.PartitionChange.{PartitionChange}
use Rattle.kr_defs.specs.declared.record.Record.{Record}
use Rattle.kr_defs.specs.Image.{Image}
use Rattle.kr_defs.specs.Map as entries
use Rattle.kr_defs.specs.Map.{partition_order, text_order}
use Rattle.kr_defs.specs.Partition.{is_well_formed}
use Rattle.kr_defs.specs.Walk.{Walked, change_of}
use Rattle.kr_replicas.specs.BrokerPartitions.{AreAtLeast}
use Rattle.kr_store.specs.Images.{topic_with}

-- a well-formed partition that doesn't pass the test isn't changed
abbrev pub ConcernsOnly : (Partition → Bool) → (Walked → Option PartitionChange) → Type 0
ConcernsOnly test change = (w : Walked) → is_well_formed w.partition ≡ true → test w.partition ≡ false → change w ≡ None

-- the change is of partitions alone that pass a test, and these keys are at least those of them
pub record Covers (keys : List (ℕ × ℤ)) (change : Walked → Option PartitionChange) (partitions : List ((ℕ × ℤ) × Partition)) : Type 0 where
  pub test : Partition → Bool
  pub least : AreAtLeast keys test partitions
  pub concerns : ConcernsOnly test change

-- the name of the key's topic, where there is one, with its id
abbrev pub with_topic_name : List (List ℕ × ℕ) → List (List ℕ × ℕ) → ℕ × ℤ → List (List ℕ × ℕ)
with_topic_name topics names key = option_map_or (λ topic. entries.insert text_order names topic.name key.0) (topic_with topics key.0) names

-- the topics of these keys, by name
abbrev pub names_of_keys : List (List ℕ × ℕ) → List (ℕ × ℤ) → List (List ℕ × ℕ)
names_of_keys topics keys = fold (with_topic_name topics) [] keys

-- the last key that a partition of the topic can have
abbrev pub last_key : ℕ → ℕ × ℤ
last_key id = (id, LAST_INDEX)

-- the keys of the topic
abbrev pub keys_of_topic : ℕ → List (ℕ × ℤ) → List (ℕ × ℤ)
keys_of_topic id keys = filter (range_contains partition_order (Excluded (id, negsuc 0)) (Included (last_key id))) keys

-- the record of the change of the partition with this key, where there are both
abbrev pub records_in_topic : (Walked → Option PartitionChange) → Image → List ℕ → ℕ × ℤ → List Record
records_in_topic change image topic key =
    option_map_or (λ partition. cons_option (change_of change (record { topic = topic; key = key; partition = partition })) [])
    (entries.get partition_order image.partitions key) []

-- the records of the changes of the topic's partitions with these keys
abbrev pub records_of_keys : (Walked → Option PartitionChange) → Image → List ℕ → List (ℕ × ℤ) → List Record
records_of_keys change image topic keys = flat_map (records_in_topic change image topic) keys

-- the same of each of these topics
abbrev pub records_of_names : (Walked → Option PartitionChange) → Image → List (ℕ × ℤ) → List (List ℕ × ℕ) → List Record
records_of_names change image keys names = flat_map (λ t. records_of_keys change image t.0 (keys_of_topic t.1 keys)) names

-- the broker leads the partition with this key
abbrev pub leads_at : List ((ℕ × ℤ) × Partition) → ℤ → ℕ × ℤ → Bool
leads_at partitions broker key = option_map_or (λ partition. int_eq partition.leader broker) (entries.get partition_order partitions key) false

-- the broker leads one of the partitions with these keys
abbrev pub leads_any : List ((ℕ × ℤ) × Partition) → ℤ → List (ℕ × ℤ) → Bool
leads_any partitions broker keys = list_any (leads_at partitions broker) keys
