-- KIP-631: the meaning of a record is the image after it. The causes why there is none, and the limits, are this project's own.
use Rattle.std.specs.Prelude.{◌≡◌, ℕ, ℤ, pos, negsuc, int_lt, false, Bool, not, ◌&&◌, ◌||◌, List, length, bytes_eq, filter, All, IsTrue, Option, Some, None, Result, Ok, Err, ◌==◌, nat_le, nat_lt, if◌then◌else◌}
use Rattle.std.specs.Ordering.{int_cmp, int_eq}
use Rattle.std.specs.Option.{option_map_or}
use Rattle.kr_defs.specs.declared.broker.Broker.{Broker}
use Rattle.kr_defs.specs.declared.partition.Partition.{Partition}
use Rattle.kr_defs.specs.declared.partition.PartitionChange.{PartitionChange}
use Rattle.kr_defs.specs.declared.record.ConfigKey.{ConfigKey}
use Rattle.kr_defs.specs.declared.record.Record.{Record}
use Rattle.kr_defs.specs.declared.record.Record.TheVariants as kinds
use Rattle.kr_defs.specs.declared.record.Item.{Item}
use Rattle.kr_defs.specs.declared.record.Item.TheVariants as items
use Rattle.kr_defs.specs.declared.ill.Ill.{Ill}
use Rattle.kr_defs.specs.declared.ill.Ill.TheVariants.{BadNumber, NoBroker, StaleEpoch, NoTopic, TopicExists, BadName, NoPartition, PartitionExists, BadPartition, Limit, BadTransaction}
use Rattle.kr_defs.specs.declared.limits.TheConstants.{MOST_BROKERS, MOST_TOPICS, MOST_PARTITIONS, MOST_CONFIG_TEXT, MOST_FEATURES, LONGEST_FEATURE}
use Rattle.kr_defs.specs.Guard.{refuse◌when◌else◌, found}
use Rattle.kr_defs.specs.Map as map
use Rattle.kr_defs.specs.Map.{text_order, partition_order, config_order}
use Rattle.kr_defs.specs.Image.{Image, topic_name, has_topic, has_numbers, is_small_registration, is_index, config_text}
use Rattle.kr_defs.specs.Merge.{merged}
use Rattle.kr_defs.specs.Partition.{is_well_formed}
use Rattle.kr_defs.specs.Texts.{is_topic_name}

-- ---- brokers

abbrev pub register_broker : Image → ℤ → Broker → Result Image Ill
register_broker image id state =
    refuse BadNumber when not (has_numbers id state) else
    refuse StaleEpoch when option_map_or (λ old. int_lt state.epoch old.epoch) (map.get int_cmp image.brokers id) false else
    refuse Limit when map.is_full int_cmp MOST_BROKERS image.brokers id || not (is_small_registration state) else
    Ok (record image { brokers = map.insert int_cmp image.brokers id state })

abbrev pub unregister_broker : Image → ℤ → ℤ → Result Image Ill
unregister_broker image id epoch = found NoBroker (map.get int_cmp image.brokers id) (λ old.
    refuse StaleEpoch when not (int_eq epoch old.epoch) else
    Ok (record image { brokers = map.remove int_cmp image.brokers id }))

-- 1 fences, -1 unfences, 0 leaves
abbrev pub is_fencing : ℤ → Bool
is_fencing fenced = int_eq fenced (negsuc 0) || int_eq fenced (pos 0) || int_eq fenced (pos 1)

-- 1 sets stopping, 0 leaves
abbrev pub is_flag : ℤ → Bool
is_flag flag = int_eq flag (pos 0) || int_eq flag (pos 1)

-- KIP-631's BrokerRegistrationChange, with KIP-841's in-controlled-shutdown flag as stopping
abbrev pub changed : Broker → ℤ → ℤ → Broker
changed old fenced stopping = record old {
  fenced = if int_eq fenced (pos 0) then old.fenced else int_eq fenced (pos 1);
  stopping = old.stopping || int_eq stopping (pos 1);
}

abbrev pub change_broker_registration : Image → ℤ → ℤ → ℤ → ℤ → Result Image Ill
change_broker_registration image id epoch fenced stopping = found NoBroker (map.get int_cmp image.brokers id) (λ old.
    refuse StaleEpoch when not (int_eq epoch old.epoch) else
    refuse BadNumber when not (is_fencing fenced && is_flag stopping) else
    Ok (record image { brokers = map.insert int_cmp image.brokers id (changed old fenced stopping) }))

-- ---- topics and partitions

abbrev pub add_topic : Image → List ℕ → ℕ → Result Image Ill
add_topic image name id =
    refuse BadName when not (is_topic_name name) else
    refuse TopicExists when map.contains text_order image.topics name || has_topic image.topics id || id == 0 else
    refuse Limit when nat_le MOST_TOPICS (length image.topics) else
    Ok (record image { topics = map.insert text_order image.topics name id })

abbrev pub add_partition : Image → ℤ → ℕ → Partition → Result Image Ill
add_partition image index topic state =
    refuse NoTopic when not (has_topic image.topics topic) else
    refuse BadNumber when not (is_index index) else
    refuse PartitionExists when map.contains partition_order image.partitions (topic, index) else
    refuse BadPartition when not (is_well_formed state) else
    refuse Limit when nat_le MOST_PARTITIONS (length image.partitions) else
    Ok (record image { partitions = map.insert partition_order image.partitions (topic, index) state })

abbrev pub change_known : Image → ℤ → ℕ → PartitionChange → Result Image Ill
change_known image index topic change = found NoPartition (map.get partition_order image.partitions (topic, index)) (λ old.
    refuse BadPartition when not (is_well_formed (merged old change)) else
    Ok (record image { partitions = map.insert partition_order image.partitions (topic, index) (merged old change) }))

abbrev pub change_partition : Image → ℤ → ℕ → PartitionChange → Result Image Ill
change_partition image index topic change =
    refuse NoTopic when not (has_topic image.topics topic) else change_known image index topic change

-- Kafka's configuration resource types
abbrev pub topic_kind : ℤ
topic_kind = pos 2

abbrev pub broker_kind : ℤ
broker_kind = pos 4

-- a setting of the topic with this name
abbrev pub is_setting_of : List ℕ → ConfigKey → Bool
is_setting_of name key = int_eq key.kind topic_kind && bytes_eq key.name name

-- the image has no setting of the topic with this name
abbrev pub HasNoSettingOf : List ℕ → Image → Type 0
HasNoSettingOf name image = All (λ e. IsTrue (not (is_setting_of name e.0))) image.configs

-- the topic goes, with its partitions and its settings
abbrev pub remove_topic : Image → ℕ → Result Image Ill
remove_topic image id = found NoTopic (topic_name image.topics id) (λ name.
    Ok (record image {
      topics = filter (λ e. not (e.1 == id)) image.topics;
      partitions = filter (λ e. not (e.0.0 == id)) image.partitions;
      configs = filter (λ e. not (is_setting_of name e.0)) image.configs;
    }))

-- ---- settings and features

-- settings of every type are kept; without a value the setting goes
abbrev pub set_config : Image → ConfigKey → Option (List ℕ) → Result Image Ill
set_config image key None = Ok (record image { configs = map.remove config_order image.configs key })
set_config image key (Some value) =
    refuse Limit when nat_lt MOST_CONFIG_TEXT (config_text (map.insert config_order image.configs key value)) else
    Ok (record image { configs = map.insert config_order image.configs key value })

-- KIP-584: level 0 removes the feature
abbrev pub set_feature_level : Image → List ℕ → ℤ → Result Image Ill
set_feature_level image name level =
    refuse BadNumber when int_lt level (pos 0) else
    refuse Limit when nat_lt LONGEST_FEATURE (length name) || (not (int_eq level (pos 0)) && map.is_full text_order MOST_FEATURES image.features name) else
    if int_eq level (pos 0)
    then Ok (record image { features = map.remove text_order image.features name })
    else Ok (record image { features = map.insert text_order image.features name level })

-- ---- all kinds

unfoldable pub apply_record : Image → Record → Result Image Ill
apply_record image (kinds.RegisterBroker broker state) = register_broker image broker state
apply_record image (kinds.UnregisterBroker broker epoch) = unregister_broker image broker epoch
apply_record image (kinds.Topic name id) = add_topic image name id
apply_record image (kinds.Partition index topic state) = add_partition image index topic state
apply_record image (kinds.Config kind name key value) = set_config image (record { kind = kind; name = name; key = key }) value
apply_record image (kinds.PartitionChange index topic change) = change_partition image index topic change
apply_record image (kinds.FenceBroker broker epoch) = change_broker_registration image broker epoch (pos 1) (pos 0)
apply_record image (kinds.UnfenceBroker broker epoch) = change_broker_registration image broker epoch (negsuc 0) (pos 0)
apply_record image (kinds.RemoveTopic topic) = remove_topic image topic
apply_record image (kinds.FeatureLevel name level) = set_feature_level image name level
apply_record image (kinds.BrokerRegistrationChange broker epoch fenced stopping) = change_broker_registration image broker epoch fenced stopping
apply_record image kinds.NoOp = Ok image
-- KIP-868: these three speak of a transaction that is open, and an image alone has none
apply_record image (kinds.BeginTransaction name) = Err BadTransaction
apply_record image kinds.EndTransaction = Err BadTransaction
apply_record image (kinds.AbortTransaction reason) = Err BadTransaction

unfoldable pub apply : Image → Item → Result Image Ill
apply image items.Control = Ok image
apply image (items.Record r) = apply_record image r

-- this is the image after a topic's removal
abbrev pub Removes : Image → ℕ → Image → Type 0
Removes image id after = apply image (items.Record (kinds.RemoveTopic id)) ≡ Ok after
