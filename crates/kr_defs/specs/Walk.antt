-- The partitions of an image in walking order: by the name of their topic in bytes, then by index (this project's own).
use Rattle.std.specs.Prelude.{ℕ, ℤ, ◌==◌, List, [], ◌∷◌, filter, filter_map, flat_map, map, option_map, Option, Some, None}
use Rattle.kr_defs.specs.declared.partition.Partition.{Partition}
use Rattle.kr_defs.specs.declared.partition.PartitionChange.{PartitionChange}
use Rattle.kr_defs.specs.declared.record.Record.{Record}
use Rattle.kr_defs.specs.declared.record.Record.TheVariants as kinds
use Rattle.kr_defs.specs.Image.{Image}
use Rattle.kr_defs.specs.Map.{above, partition_order}

-- a partition, with its key and the name of its topic
pub record Walked : Type 0 where
  pub topic : List ℕ
  pub key : ℕ × ℤ
  pub partition : Partition

abbrev pub walked : List ℕ → (ℕ × ℤ) × Partition → Walked
walked topic e = record { topic = topic; key = e.0; partition = e.1 }

-- the partitions of one topic, by index
abbrev pub of_topic : ℕ → List ((ℕ × ℤ) × Partition) → List ((ℕ × ℤ) × Partition)
of_topic id partitions = filter (λ e. e.0.0 == id) partitions

-- the partitions above the key that are of its topic
abbrev pub rest_of_topic : ℕ × ℤ → List ((ℕ × ℤ) × Partition) → List ((ℕ × ℤ) × Partition)
rest_of_topic key partitions = of_topic key.0 (above partition_order partitions (Some key))

abbrev pub walk_topic : List ((ℕ × ℤ) × Partition) → List ℕ × ℕ → List Walked
walk_topic partitions topic = map (walked topic.0) (of_topic topic.1 partitions)

-- all partitions
abbrev pub walk : Image → List Walked
walk image = flat_map (walk_topic image.partitions) image.topics

-- ---- the changes that a walk gives, each of its own partition

-- the record of a change, where there is one
abbrev pub change_of : (Walked → Option PartitionChange) → Walked → Option Record
change_of change w = option_map (λ c. kinds.PartitionChange w.key.1 w.key.0 c) (change w)

abbrev pub changes_of : (Walked → Option PartitionChange) → List Walked → List Record
changes_of change ws = filter_map (change_of change) ws

-- the same of one partition that was named
abbrev pub change_records : ℕ → ℤ → Option PartitionChange → List Record
change_records id index None = []
change_records id index (Some change) = kinds.PartitionChange index id change ∷ []
