-- An image: what the records of a metadata log say so far (KIP-631), as five finite maps.
use Rattle.std.specs.Prelude.{ℕ, ◌+◌, ◌≤◌, ℤ, pos, int_lt, Bool, true, not, ◌&&◌, List, [], ◌∷◌, length, All, sum_by, Option, unwrap_or, option_map, is_some, IsTrue, find, ◌==◌, nat_le}
use Rattle.std.specs.List.{list_any}
use Rattle.std.specs.Ordering.{int_cmp}
use Rattle.std.specs.Map.{values_of}
use Rattle.kr_defs.specs.declared.broker.Broker.{Broker}
use Rattle.kr_defs.specs.declared.partition.Partition.{Partition}
use Rattle.kr_defs.specs.declared.record.ConfigKey.{ConfigKey}
use Rattle.kr_defs.specs.declared.limits.TheConstants.{MOST_BROKERS, MOST_TOPICS, MOST_PARTITIONS, LAST_INDEX, MOST_ENDPOINTS, MOST_RANGES, MOST_REGISTRATION_TEXT, MOST_CONFIG_TEXT, MOST_FEATURES, LONGEST_FEATURE}
use Rattle.kr_defs.specs.Map as map
use Rattle.kr_defs.specs.Map.{text_order, partition_order, config_order}
use Rattle.kr_defs.specs.Partition.{is_natural, is_well_formed}
use Rattle.kr_defs.specs.Texts.{is_topic_name}

pub record Image : Type 0 where
  -- by id
  pub brokers : List (ℤ × Broker)
  -- from name to id
  pub topics : List (List ℕ × ℕ)
  -- by topic id and index
  pub partitions : List ((ℕ × ℤ) × Partition)
  -- by type, resource name and key
  pub configs : List (ConfigKey × List ℕ)
  -- from name to level
  pub features : List (List ℕ × ℤ)

-- nothing is registered, created or set
abbrev pub empty : Image
empty = record { brokers = []; topics = []; partitions = []; configs = []; features = [] }

-- the name of the topic with this id
abbrev pub topic_name : List (List ℕ × ℕ) → ℕ → Option (List ℕ)
topic_name topics id = option_map (λ e. e.0) (find (λ e. e.1 == id) topics)

-- some topic has this id
abbrev pub has_topic : List (List ℕ × ℕ) → ℕ → Bool
has_topic topics id = is_some (topic_name topics id)

-- the bytes of text in one registration
abbrev pub registration_text : Broker → ℕ
registration_text state =
    sum_by (λ e. length e.name + length e.host) state.endpoints
    + sum_by (λ r. length r.name) state.features
    + length (unwrap_or state.rack [])

-- no limit of one registration is passed
abbrev pub is_small_registration : Broker → Bool
is_small_registration state =
    nat_le (length state.endpoints) MOST_ENDPOINTS && nat_le (length state.features) MOST_RANGES
    && nat_le (registration_text state) MOST_REGISTRATION_TEXT

-- a broker's id and epoch are not negative
abbrev pub has_numbers : ℤ → Broker → Bool
has_numbers id state = is_natural id && is_natural state.epoch

-- 0 to the greatest
abbrev pub is_index : ℤ → Bool
is_index index = is_natural index && not (int_lt LAST_INDEX index)

-- the bytes of text of a setting
abbrev pub entry_text : ConfigKey → List ℕ → ℕ
entry_text key value = length key.name + length key.key + length value

-- and of all settings
abbrev pub config_text : List (ConfigKey × List ℕ) → ℕ
config_text configs = sum_by (λ e. entry_text e.0 e.1) configs

-- each id stands once
abbrev pub are_distinct : List ℕ → Bool
are_distinct [] = true
are_distinct (id ∷ ids) = not (list_any (λ other. other == id) ids) && are_distinct ids

-- This project's own: what is true of an image whatever records made it.

pub record AreBrokers (brokers : List (ℤ × Broker)) : Type 0 where
  pub ordered : map.IsMap int_cmp brokers
  pub numbers : All (λ e. IsTrue (has_numbers e.0 e.1)) brokers
  pub small : All (λ e. IsTrue (is_small_registration e.1)) brokers
  pub few : length brokers ≤ MOST_BROKERS

pub record AreTopics (topics : List (List ℕ × ℕ)) : Type 0 where
  pub ordered : map.IsMap text_order topics
  pub names : All (λ e. IsTrue (is_topic_name e.0)) topics
  pub ids : All (λ e. IsTrue (not (e.1 == 0))) topics
  pub distinct : IsTrue (are_distinct (values_of topics))
  pub few : length topics ≤ MOST_TOPICS

pub record ArePartitions (topics : List (List ℕ × ℕ)) (partitions : List ((ℕ × ℤ) × Partition)) : Type 0 where
  pub ordered : map.IsMap partition_order partitions
  pub owned : All (λ e. IsTrue (has_topic topics e.0.0)) partitions
  pub indexes : All (λ e. IsTrue (is_index e.0.1)) partitions
  pub well_formed : All (λ e. IsTrue (is_well_formed e.1)) partitions
  pub few : length partitions ≤ MOST_PARTITIONS

pub record AreConfigs (configs : List (ConfigKey × List ℕ)) : Type 0 where
  pub ordered : map.IsMap config_order configs
  pub little : config_text configs ≤ MOST_CONFIG_TEXT

pub record AreFeatures (features : List (List ℕ × ℤ)) : Type 0 where
  pub ordered : map.IsMap text_order features
  pub levels : All (λ e. IsTrue (int_lt (pos 0) e.1)) features
  pub short : All (λ e. IsTrue (nat_le (length e.0) LONGEST_FEATURE)) features
  pub few : length features ≤ MOST_FEATURES

pub record IsValid (image : Image) : Type 0 where
  pub brokers : AreBrokers image.brokers
  pub topics : AreTopics image.topics
  pub partitions : ArePartitions image.topics image.partitions
  pub configs : AreConfigs image.configs
  pub features : AreFeatures image.features
