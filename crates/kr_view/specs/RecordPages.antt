-- The records of an image, each by its key, in the order in which an image is written. This project's own.
use Rattle.std.specs.Prelude.{◌≡◌, ℕ, ℤ, Bool, true, List, [], ◌∷◌, ◌++◌, filter, flat_map, map, take, Option, Some, None}
use Rattle.std.specs.declared.cmp.Ordering.{Ordering}
use Rattle.std.specs.Option.{option_and_then, option_map}
use Rattle.std.specs.Ordering.{int_cmp, is_lt}
use Rattle.kr_defs.specs.declared.broker.Broker.{Broker}
use Rattle.kr_defs.specs.declared.partition.Partition.{Partition}
use Rattle.kr_defs.specs.declared.record.ConfigKey.{ConfigKey}
use Rattle.kr_defs.specs.declared.record.Record.{Record}
use Rattle.kr_defs.specs.declared.record.Record.TheVariants as kinds
use Rattle.kr_defs.specs.Image.{Image}
use Rattle.kr_defs.specs.ImageOrder.{Rank, named, rank_order}
use Rattle.kr_defs.specs.Map.{config_order, get, partition_order, text_order}
use Rattle.kr_defs.specs.Records.{partition_record}
use Rattle.kr_defs.specs.Walk.{Walked, walk_topic}
use Rattle.kr_view.specs.declared.record_key.RecordKey.{RecordKey}
use Rattle.kr_view.specs.declared.record_key.RecordKey.TheVariants as keys

-- where the record of the key stands among those of an image
abbrev pub rank_of_key : RecordKey → Rank
rank_of_key (keys.Feature name) = named 0 name None
rank_of_key (keys.Broker id) = named 1 [] (Some id)
rank_of_key (keys.Topic name) = named 2 name None
rank_of_key (keys.Partition topic index) = named 2 topic (Some index)
rank_of_key (keys.Setting kind name key) = record { section = 3; kind = kind; name = name; key = key; number = None }

abbrev pub record_key_order : RecordKey → RecordKey → Ordering
record_key_order x y = rank_order (rank_of_key x) (rank_of_key y)

-- ---- the records, each behind its key

abbrev pub keyed_feature : List ℕ × ℤ → RecordKey × Record
keyed_feature e = (keys.Feature e.0, kinds.FeatureLevel e.0 e.1)

abbrev pub keyed_broker : ℤ × Broker → RecordKey × Record
keyed_broker e = (keys.Broker e.0, kinds.RegisterBroker e.0 e.1)

abbrev pub keyed_partition : Walked → RecordKey × Record
keyed_partition w = (keys.Partition w.topic w.key.1, partition_record w)

-- a topic, and then its partitions in walking order
abbrev pub keyed_topic : List ((ℕ × ℤ) × Partition) → List ℕ × ℕ → List (RecordKey × Record)
keyed_topic partitions topic = (keys.Topic topic.0, kinds.Topic topic.0 topic.1) ∷ map keyed_partition (walk_topic partitions topic)

abbrev pub keyed_setting : ConfigKey × List ℕ → RecordKey × Record
keyed_setting e = (keys.Setting e.0.kind e.0.name e.0.key, kinds.Config e.0.kind e.0.name e.0.key (Some e.1))

unfoldable pub keyed_records : Image → List (RecordKey × Record)
keyed_records image =
    map keyed_feature image.features
    ++ map keyed_broker image.brokers
    ++ flat_map (keyed_topic image.partitions) image.topics
    ++ map keyed_setting image.configs

-- there is no key, or the record stands behind it
abbrev pub is_record_behind : Option RecordKey → RecordKey × Record → Bool
is_record_behind None r = true
is_record_behind (Some key) r = is_lt (record_key_order key r.0)

-- the first records behind the key
abbrev pub record_page : Image → Option RecordKey → ℕ → List Record
record_page image after max = take max (map (λ (r : RecordKey × Record). r.1) (filter (is_record_behind after) (keyed_records image)))

abbrev pub IsRecordPage : Option RecordKey → ℕ → Image → List Record → Type 0
IsRecordPage after max image records = records ≡ record_page image after max

-- ---- the record of one key

abbrev pub setting_key : ℤ → List ℕ → List ℕ → ConfigKey
setting_key kind name key = record { kind = kind; name = name; key = key }

abbrev pub record_of_key : Image → RecordKey → Option Record
record_of_key image (keys.Feature name) = option_map (kinds.FeatureLevel name) (get text_order image.features name)
record_of_key image (keys.Broker id) = option_map (kinds.RegisterBroker id) (get int_cmp image.brokers id)
record_of_key image (keys.Topic name) = option_map (kinds.Topic name) (get text_order image.topics name)
record_of_key image (keys.Partition topic index) = option_and_then (λ id. option_map (kinds.Partition index id) (get partition_order image.partitions (id, index))) (get text_order image.topics topic)
record_of_key image (keys.Setting kind name key) = option_map (λ value. kinds.Config kind name key (Some value)) (get config_order image.configs (setting_key kind name key))

abbrev pub IsRecordAt : RecordKey → Image → Option Record → Type 0
IsRecordAt key image answer = answer ≡ record_of_key image key
