-- The keys of an image's records, read one after the other. This project's own.
use Rattle.std.specs.Prelude.{ℕ, List, [], fold, Option, Some, None}
use Rattle.kr_defs.specs.declared.record.Record.{Record}
use Rattle.kr_defs.specs.declared.record.Record.TheVariants as kinds
use Rattle.kr_view.specs.declared.record_key.RecordKey.{RecordKey}
use Rattle.kr_view.specs.declared.record_key.RecordKey.TheVariants as keys

-- the name of the topic that the key is of
abbrev pub topic_name_in : Option RecordKey → List ℕ
topic_name_in None = []
topic_name_in (Some (keys.Feature name)) = []
topic_name_in (Some (keys.Broker id)) = []
topic_name_in (Some (keys.Topic name)) = name
topic_name_in (Some (keys.Partition topic index)) = topic
topic_name_in (Some (keys.Setting kind name key)) = []

-- the key of the record that stands behind the one with the last key: a partition is of the topic of that
abbrev pub key_behind : Option RecordKey → Record → Option RecordKey
key_behind last (kinds.FeatureLevel name level) = Some (keys.Feature name)
key_behind last (kinds.RegisterBroker id state) = Some (keys.Broker id)
key_behind last (kinds.Topic name id) = Some (keys.Topic name)
key_behind last (kinds.Partition index id state) = Some (keys.Partition (topic_name_in last) index)
key_behind last (kinds.Config kind name key value) = Some (keys.Setting kind name key)
key_behind last _ = last

-- and of the last of several
abbrev pub keys_behind : Option RecordKey → List Record → Option RecordKey
keys_behind last records = fold key_behind last records
