-- The line of a record: one JSON object, with the names of Kafka's metadata record schemas and in their order, and what its JSON
-- converters leave out: parts that the record's version doesn't have, and tagged fields that have their default. Directories
-- (KIP-858) aren't kept by what reads records, and aren't shown.
use Rattle.std.specs.Prelude.{ℕ, ℤ, pos, nat_le, ◌+ℤ◌, List, [], ◌∷◌, ◌++◌, Option, Some, None, if◌then◌else◌, codes}
use Rattle.std.specs.Fmt.{decimal, signed_decimal}
use Rattle.std.specs.Ordering.{int_eq}
use Rattle.kr_defs.specs.declared.broker.Broker.{Broker}
use Rattle.kr_defs.specs.declared.broker.Endpoint.{Endpoint}
use Rattle.kr_defs.specs.declared.broker.Range.{Range}
use Rattle.kr_defs.specs.declared.partition.Partition.{Partition}
use Rattle.kr_defs.specs.declared.partition.PartitionChange.{PartitionChange}
use Rattle.kr_defs.specs.declared.record.Record.{Record}
use Rattle.kr_defs.specs.declared.record.Record.TheVariants as kinds
use Rattle.kr_defs.specs.declared.record.Item.{Item}
use Rattle.kr_defs.specs.declared.record.Item.TheVariants as items
use Rattle.kr_json.specs.declared.place.Place.{Place}
use Rattle.kr_json.specs.JsonText.{boolean, elements, base64_id, numbers, string, string_or_null}

-- ---- members

-- a part that is there since a version
abbrev pub since : ℕ → ℕ → List ℕ → List ℕ
since first version text = if nat_le first version then text else []

-- a tagged number, where it hasn't its default 0
abbrev pub unless_zero : List ℕ → ℤ → List ℕ
unless_zero name n = if int_eq n (pos 0) then [] else name ++ signed_decimal n

-- a tagged part whose default is "no change", or null
abbrev pub number_if_any : List ℕ → Option ℤ → List ℕ
number_if_any name None = []
number_if_any name (Some n) = name ++ signed_decimal n

abbrev pub numbers_if_any : List ℕ → Option (List ℤ) → List ℕ
numbers_if_any name None = []
numbers_if_any name (Some ns) = name ++ numbers ns

-- a tagged list that is null where it is empty
abbrev pub unless_no_ids : List ℕ → List ℤ → List ℕ
unless_no_ids name [] = []
unless_no_ids name (n ∷ ns) = name ++ numbers (n ∷ ns)

-- ---- data, by kind

abbrev pub port : Endpoint → List ℕ
port e = codes ",\"port\":" ++ (decimal e.port ++ (codes ",\"securityProtocol\":" ++ signed_decimal e.protocol))

abbrev pub endpoint_object : Endpoint → List ℕ
endpoint_object e =
    codes "{\"name\":" ++ (string e.name ++ (codes ",\"host\":" ++ (string e.host ++ (port e ++ codes "}"))))

abbrev pub levels : Range → List ℕ
levels r = codes ",\"minSupportedVersion\":" ++ (signed_decimal r.min ++ (codes ",\"maxSupportedVersion\":" ++ signed_decimal r.max))

abbrev pub range_object : Range → List ℕ
range_object r = codes "{\"name\":" ++ (string r.name ++ (levels r ++ codes "}"))

-- the process that registered
abbrev pub process : ℤ → Broker → List ℕ
process broker b =
    codes "{\"brokerId\":" ++ (signed_decimal broker ++ (codes ",\"incarnationId\":" ++ (base64_id b.incarnation
    ++ (codes ",\"brokerEpoch\":" ++ signed_decimal b.epoch))))

abbrev pub endpoint_list : Broker → List ℕ
endpoint_list b = codes ",\"endPoints\":[" ++ (elements endpoint_object b.endpoints ++ codes "]")

abbrev pub feature_list : Broker → List ℕ
feature_list b = codes ",\"features\":[" ++ (elements range_object b.features ++ codes "]")

-- what it tells of itself
abbrev pub listeners : Broker → List ℕ
listeners b = endpoint_list b ++ (feature_list b ++ (codes ",\"rack\":" ++ string_or_null b.rack))

abbrev pub register_broker_data : ℕ → ℤ → Broker → List ℕ
register_broker_data version broker b =
    process broker b ++ (listeners b ++ (codes ",\"fenced\":" ++ (boolean b.fenced
    ++ (since 1 version (codes ",\"inControlledShutdown\":" ++ boolean b.stopping) ++ codes "}"))))

abbrev pub unregister_broker_data : ℤ → ℤ → List ℕ
unregister_broker_data broker epoch =
    codes "{\"brokerId\":" ++ (signed_decimal broker ++ (codes ",\"brokerEpoch\":" ++ (signed_decimal epoch ++ codes "}")))

abbrev pub topic_data : List ℕ → ℕ → List ℕ
topic_data name topic_id = codes "{\"name\":" ++ (string name ++ (codes ",\"topicId\":" ++ (base64_id topic_id ++ codes "}")))

-- which partition it is
abbrev pub partition_key : ℤ → ℕ → List ℕ
partition_key index topic_id = codes "{\"partitionId\":" ++ (signed_decimal index ++ (codes ",\"topicId\":" ++ base64_id topic_id))

abbrev pub replicas : Partition → List ℕ
replicas p =
    codes ",\"replicas\":" ++ (numbers p.replicas ++ (codes ",\"isr\":" ++ (numbers p.in_sync
    ++ (codes ",\"removingReplicas\":" ++ (numbers p.removing ++ (codes ",\"addingReplicas\":" ++ numbers p.adding))))))

abbrev pub epochs : Partition → List ℕ
epochs p = codes ",\"leaderEpoch\":" ++ (signed_decimal p.leader_epoch ++ (codes ",\"partitionEpoch\":" ++ signed_decimal p.partition_epoch))

abbrev pub leadership : Partition → List ℕ
leadership p = codes ",\"leader\":" ++ (signed_decimal p.leader ++ (unless_zero (codes ",\"leaderRecoveryState\":") p.recovery ++ epochs p))

-- those are there since version 2
abbrev pub eligible : ℕ → Partition → List ℕ
eligible version p =
    since 2 version (unless_no_ids (codes ",\"eligibleLeaderReplicas\":") p.eligible)
    ++ since 2 version (unless_no_ids (codes ",\"lastKnownElr\":") p.last_known)

abbrev pub partition_data : ℕ → ℤ → ℕ → Partition → List ℕ
partition_data version index topic_id p =
    partition_key index topic_id ++ (replicas p ++ (leadership p ++ (eligible version p ++ codes "}")))

-- whose setting it is
abbrev pub resource : ℤ → List ℕ → List ℕ
resource kind name = codes "{\"resourceType\":" ++ (signed_decimal kind ++ (codes ",\"resourceName\":" ++ string name))

abbrev pub config_data : ℤ → List ℕ → List ℕ → Option (List ℕ) → List ℕ
config_data kind name key value =
    resource kind name ++ (codes ",\"name\":" ++ (string key ++ (codes ",\"value\":" ++ (string_or_null value ++ codes "}"))))

-- the lists that a reassignment changes
abbrev pub changed_replicas : PartitionChange → List ℕ
changed_replicas c =
    numbers_if_any (codes ",\"replicas\":") c.replicas ++ (numbers_if_any (codes ",\"removingReplicas\":") c.removing
    ++ numbers_if_any (codes ",\"addingReplicas\":") c.adding)

abbrev pub changed_leadership : PartitionChange → List ℕ
changed_leadership c = numbers_if_any (codes ",\"isr\":") c.in_sync ++ number_if_any (codes ",\"leader\":") c.leader

abbrev pub changed_parts : PartitionChange → List ℕ
changed_parts c = changed_leadership c ++ (changed_replicas c ++ number_if_any (codes ",\"leaderRecoveryState\":") c.recovery)

-- those are there since version 2
abbrev pub changed_eligible : ℕ → PartitionChange → List ℕ
changed_eligible version c =
    since 2 version (numbers_if_any (codes ",\"eligibleLeaderReplicas\":") c.eligible)
    ++ since 2 version (numbers_if_any (codes ",\"lastKnownElr\":") c.last_known)

abbrev pub partition_change_data : ℕ → ℤ → ℕ → PartitionChange → List ℕ
partition_change_data version index topic_id c =
    partition_key index topic_id ++ (changed_parts c ++ (changed_eligible version c ++ codes "}"))

-- a broker is fenced, or its fence is lifted
abbrev pub fencing_data : ℤ → ℤ → List ℕ
fencing_data broker epoch = codes "{\"id\":" ++ (signed_decimal broker ++ (codes ",\"epoch\":" ++ (signed_decimal epoch ++ codes "}")))

abbrev pub remove_topic_data : ℕ → List ℕ
remove_topic_data topic_id = codes "{\"topicId\":" ++ (base64_id topic_id ++ codes "}")

abbrev pub feature_level_data : List ℕ → ℤ → List ℕ
feature_level_data name level = codes "{\"name\":" ++ (string name ++ (codes ",\"featureLevel\":" ++ (signed_decimal level ++ codes "}")))

-- the controlled shutdown is there since version 1
abbrev pub broker_registration_change_data : ℕ → ℤ → ℤ → ℤ → ℤ → List ℕ
broker_registration_change_data version broker epoch fenced stopping =
    codes "{\"brokerId\":" ++ (signed_decimal broker ++ (codes ",\"brokerEpoch\":" ++ (signed_decimal epoch
    ++ (unless_zero (codes ",\"fenced\":") fenced ++ (since 1 version (unless_zero (codes ",\"inControlledShutdown\":") stopping) ++ codes "}")))))

-- a tagged text whose default is null
abbrev pub remark_data : List ℕ → Option (List ℕ) → List ℕ
remark_data name None = codes "{}"
remark_data name (Some text) = name ++ (string text ++ codes "}")

-- ---- the choice of kinds

-- the name of the kind (Kafka's MetadataRecordType)
abbrev pub kind_name : Record → List ℕ
kind_name (kinds.RegisterBroker broker state) = codes "REGISTER_BROKER_RECORD"
kind_name (kinds.UnregisterBroker broker epoch) = codes "UNREGISTER_BROKER_RECORD"
kind_name (kinds.Topic name topic_id) = codes "TOPIC_RECORD"
kind_name (kinds.Partition index topic_id state) = codes "PARTITION_RECORD"
kind_name (kinds.Config kind name key value) = codes "CONFIG_RECORD"
kind_name (kinds.PartitionChange index topic_id change) = codes "PARTITION_CHANGE_RECORD"
kind_name (kinds.FenceBroker broker epoch) = codes "FENCE_BROKER_RECORD"
kind_name (kinds.UnfenceBroker broker epoch) = codes "UNFENCE_BROKER_RECORD"
kind_name (kinds.RemoveTopic topic_id) = codes "REMOVE_TOPIC_RECORD"
kind_name (kinds.FeatureLevel name level) = codes "FEATURE_LEVEL_RECORD"
kind_name (kinds.BrokerRegistrationChange broker epoch fenced stopping) = codes "BROKER_REGISTRATION_CHANGE_RECORD"
kind_name kinds.NoOp = codes "NO_OP_RECORD"
kind_name (kinds.BeginTransaction name) = codes "BEGIN_TRANSACTION_RECORD"
kind_name kinds.EndTransaction = codes "END_TRANSACTION_RECORD"
kind_name (kinds.AbortTransaction reason) = codes "ABORT_TRANSACTION_RECORD"

unfoldable pub data_text : ℕ → Record → List ℕ
data_text version (kinds.RegisterBroker broker state) = register_broker_data version broker state
data_text version (kinds.UnregisterBroker broker epoch) = unregister_broker_data broker epoch
data_text version (kinds.Topic name topic_id) = topic_data name topic_id
data_text version (kinds.Partition index topic_id state) = partition_data version index topic_id state
data_text version (kinds.Config kind name key value) = config_data kind name key value
data_text version (kinds.PartitionChange index topic_id change) = partition_change_data version index topic_id change
data_text version (kinds.FenceBroker broker epoch) = fencing_data broker epoch
data_text version (kinds.UnfenceBroker broker epoch) = fencing_data broker epoch
data_text version (kinds.RemoveTopic topic_id) = remove_topic_data topic_id
data_text version (kinds.FeatureLevel name level) = feature_level_data name level
data_text version (kinds.BrokerRegistrationChange broker epoch fenced stopping) = broker_registration_change_data version broker epoch fenced stopping
data_text version kinds.NoOp = codes "{}"
data_text version (kinds.BeginTransaction name) = remark_data (codes "{\"name\":") name
data_text version kinds.EndTransaction = codes "{}"
data_text version (kinds.AbortTransaction reason) = remark_data (codes "{\"reason\":") reason

-- ---- a line

-- where it stands: the offset is the batch's and the number in the batch
abbrev pub place : Place → List ℕ
place p =
    codes "{\"offset\":" ++ (signed_decimal (p.base +ℤ pos p.number) ++ (codes ",\"leaderEpoch\":" ++ (signed_decimal p.epoch
    ++ (codes ",\"timestamp\":" ++ signed_decimal p.time))))

-- the kind, the version and the data
abbrev pub record_members : ℕ → Record → List ℕ
record_members version r =
    codes ",\"type\":\"" ++ (kind_name r ++ (codes "\",\"version\":" ++ (decimal version ++ (codes ",\"data\":" ++ data_text version r))))

-- the kind and the data; of one of the quorum's own that it is so
abbrev pub item_members : ℕ → Item → List ℕ
item_members version (items.Record r) = record_members version r
item_members version items.Control = codes ",\"control\":true"

unfoldable pub record_line : Place → ℕ → Item → List ℕ
record_line p version item = place p ++ (item_members version item ++ codes "}\n")
