-- The records that make an image, in the order in which an image is written (this project's own).
use Rattle.std.specs.Prelude.{ℕ, ℤ, List, ◌∷◌, ◌++◌, flat_map, map, Some}
use Rattle.kr_defs.specs.declared.partition.Partition.{Partition}
use Rattle.kr_defs.specs.declared.record.Record.{Record}
use Rattle.kr_defs.specs.declared.record.Record.TheVariants as kinds
use Rattle.kr_defs.specs.Image.{Image}
use Rattle.kr_defs.specs.Walk.{Walked, walk_topic}

abbrev pub partition_record : Walked → Record
partition_record w = kinds.Partition w.key.1 w.key.0 w.partition

-- a topic, and then its partitions in walking order
abbrev pub topic_records : List ((ℕ × ℤ) × Partition) → List ℕ × ℕ → List Record
topic_records partitions topic = kinds.Topic topic.0 topic.1 ∷ map partition_record (walk_topic partitions topic)

-- features by name, brokers by id, topics by name, settings by type, resource name and key
unfoldable pub records_of : Image → List Record
records_of image =
    map (λ e. kinds.FeatureLevel e.0 e.1) image.features
    ++ map (λ e. kinds.RegisterBroker e.0 e.1) image.brokers
    ++ flat_map (topic_records image.partitions) image.topics
    ++ map (λ e. kinds.Config e.0.kind e.0.name e.0.key (Some e.1)) image.configs
