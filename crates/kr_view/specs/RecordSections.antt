-- The records of an image, section by section, behind a key. This project's own.
use Rattle.std.specs.Prelude.{ℕ, ℤ, negsuc, List, [], ◌∷◌, ◌++◌, flat_map, map, Option, Some, None}
use Rattle.std.specs.Ordering.{int_cmp}
use Rattle.kr_defs.specs.declared.broker.Broker.{Broker}
use Rattle.kr_defs.specs.declared.record.ConfigKey.{ConfigKey}
use Rattle.kr_defs.specs.declared.record.Record.{Record}
use Rattle.kr_defs.specs.declared.record.Record.TheVariants as kinds
use Rattle.kr_defs.specs.Image.{Image}
use Rattle.kr_defs.specs.Map.{above, config_order, text_order}
use Rattle.kr_defs.specs.Records.{partition_record}
use Rattle.kr_view.specs.declared.record_key.RecordKey.{RecordKey}
use Rattle.kr_view.specs.declared.record_key.RecordKey.TheVariants as keys
use Rattle.kr_view.specs.Listings.{listed, listed_behind}
use Rattle.kr_view.specs.RecordPages.{setting_key}

abbrev pub record_of_feature : List ℕ × ℤ → Record
record_of_feature e = kinds.FeatureLevel e.0 e.1

abbrev pub record_of_broker : ℤ × Broker → Record
record_of_broker e = kinds.RegisterBroker e.0 e.1

abbrev pub record_of_topic : List ℕ × ℕ → List Record
record_of_topic topic = kinds.Topic topic.0 topic.1 ∷ []

abbrev pub record_of_setting : ConfigKey × List ℕ → Record
record_of_setting e = kinds.Config e.0.kind e.0.name e.0.key (Some e.1)

-- ---- behind a key of the section, or all of it; and the sections behind

abbrev pub from_settings : Image → Option ConfigKey → List Record
from_settings image after = map record_of_setting (above config_order image.configs after)

abbrev pub from_topics : Image → List Record
from_topics image = flat_map (listed record_of_topic partition_record image.partitions) image.topics ++ from_settings image None

abbrev pub from_brokers : Image → Option ℤ → List Record
from_brokers image after = map record_of_broker (above int_cmp image.brokers after) ++ from_topics image

abbrev pub from_features : Image → Option (List ℕ) → List Record
from_features image after = map record_of_feature (above text_order image.features after) ++ from_brokers image None

abbrev pub behind_partition : Image → List ℕ → ℤ → List Record
behind_partition image name index = listed_behind record_of_topic partition_record image name index ++ from_settings image None

abbrev pub behind_key : Image → RecordKey → List Record
behind_key image (keys.Feature name) = from_features image (Some name)
behind_key image (keys.Broker id) = from_brokers image (Some id)
behind_key image (keys.Topic name) = behind_partition image name (negsuc 0)
behind_key image (keys.Partition topic index) = behind_partition image topic index
behind_key image (keys.Setting kind name key) = from_settings image (Some (setting_key kind name key))

-- all where there is no key
abbrev pub records_behind : Image → Option RecordKey → List Record
records_behind image None = from_features image None
records_behind image (Some key) = behind_key image key
