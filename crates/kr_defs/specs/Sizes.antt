-- How many bytes the written value of a record has, in the layouts of KIP-631's records at the versions that are written.
use Rattle.std.specs.Prelude.{ℕ, ◌+◌, ◌*◌, ◌^◌, ℤ, pos, negsuc, List, [], ◌∷◌, length, sum_by, Option, Some, None, nat_lt, if◌then◌else◌}
use Rattle.std.specs.Ordering.{int_eq}
use Rattle.kr_defs.specs.declared.broker.Broker.{Broker}
use Rattle.kr_defs.specs.declared.partition.Partition.{Partition}
use Rattle.kr_defs.specs.declared.partition.PartitionChange.{PartitionChange}
use Rattle.kr_defs.specs.declared.record.Record.{Record}
use Rattle.kr_defs.specs.declared.record.Record.TheVariants as kinds

-- a number below 2 ^ 32 in groups of seven bits
abbrev pub uvarint_bytes : ℕ → ℕ
uvarint_bytes n =
    if nat_lt n (2 ^ 7) then 1 else
    if nat_lt n (2 ^ 14) then 2 else
    if nat_lt n (2 ^ 21) then 3 else
    if nat_lt n (2 ^ 28) then 4 else 5

-- a text or a list begins with one more than its length; 0 stands for none
abbrev pub text_bytes : List ℕ → ℕ
text_bytes text = uvarint_bytes (length text + 1) + length text

abbrev pub text_or_null_bytes : Option (List ℕ) → ℕ
text_or_null_bytes None = 1
text_or_null_bytes (Some text) = text_bytes text

-- elements of the same size
abbrev pub list_bytes : {X : Type 0} → ℕ → List X → ℕ
list_bytes size xs = uvarint_bytes (length xs + 1) + size * length xs

-- elements whose sizes differ
abbrev pub rows_bytes : {X : Type 0} → (X → ℕ) → List X → ℕ
rows_bytes size xs = uvarint_bytes (length xs + 1) + sum_by size xs

-- ---- tagged fields: their number, and of each its tag and its size in one byte or more, and its data

-- a field that is there has data of so many bytes
abbrev pub field_bytes : Option ℕ → ℕ
field_bytes None = 0
field_bytes (Some size) = 1 + uvarint_bytes size + size

abbrev pub field_there : Option ℕ → ℕ
field_there None = 0
field_there (Some _) = 1

-- fields with tags below 128
abbrev pub tags_bytes : List (Option ℕ) → ℕ
tags_bytes fields = uvarint_bytes (sum_by field_there fields) + sum_by field_bytes fields

abbrev pub no_tags_bytes : ℕ
no_tags_bytes = 1

-- a number of so many bytes that is left out at its default
abbrev pub number_field : ℕ → ℤ → ℤ → Option ℕ
number_field size default n = if int_eq n default then None else Some size

abbrev pub number_field_or : ℕ → ℤ → Option ℤ → Option ℕ
number_field_or size default None = None
number_field_or size default (Some n) = number_field size default n

-- a list of ids that is left out where empty
abbrev pub ids_field : List ℤ → Option ℕ
ids_field [] = None
ids_field (id ∷ ids) = Some (list_bytes 4 (id ∷ ids))

-- a list of ids that is left out where there is none
abbrev pub ids_field_or : Option (List ℤ) → Option ℕ
ids_field_or None = None
ids_field_or (Some ids) = Some (list_bytes 4 ids)

-- a text that is left out where there is none
abbrev pub text_field : Option (List ℕ) → Option ℕ
text_field None = None
text_field (Some text) = Some (text_bytes text)

-- ---- the layouts

-- id, incarnation, epoch, endpoints, features, rack and the two flags
abbrev pub registration_bytes : Broker → ℕ
registration_bytes state =
    4 + 16 + 8
    + rows_bytes (λ e. text_bytes e.name + text_bytes e.host + 2 + 2 + no_tags_bytes) state.endpoints
    + rows_bytes (λ r. text_bytes r.name + 2 + 2 + no_tags_bytes) state.features
    + text_or_null_bytes state.rack + 1 + 1 + no_tags_bytes

-- what is tagged of a partition
abbrev pub partition_tags_bytes : Partition → ℕ
partition_tags_bytes state =
    tags_bytes (number_field 1 (pos 0) state.recovery ∷ ids_field state.eligible ∷ ids_field state.last_known ∷ [])

-- index, topic, four lists, leader, two epochs, one directory id for each replica, and what is tagged
abbrev pub partition_bytes : Partition → ℕ
partition_bytes state =
    4 + 16
    + list_bytes 4 state.replicas + list_bytes 4 state.in_sync + list_bytes 4 state.removing + list_bytes 4 state.adding
    + 4 + 4 + 4
    + list_bytes 16 state.replicas
    + partition_tags_bytes state

-- what is changed of a partition
abbrev pub change_tags_bytes : PartitionChange → ℕ
change_tags_bytes change = tags_bytes (
    ids_field_or change.in_sync ∷ number_field_or 4 (negsuc 1) change.leader ∷ ids_field_or change.replicas
    ∷ ids_field_or change.removing ∷ ids_field_or change.adding ∷ number_field_or 1 (negsuc 0) change.recovery
    ∷ ids_field_or change.eligible ∷ ids_field_or change.last_known ∷ [])

-- index, topic, and what is changed
abbrev pub change_bytes : PartitionChange → ℕ
change_bytes change = 4 + 16 + change_tags_bytes change

-- the three numbers before a layout: frame version, key and version
abbrev pub frame_bytes : ℕ
frame_bytes = 3

abbrev pub layout_bytes : Record → ℕ
layout_bytes (kinds.RegisterBroker broker state) = registration_bytes state
layout_bytes (kinds.UnregisterBroker broker epoch) = 4 + 8 + no_tags_bytes
layout_bytes (kinds.Topic name id) = text_bytes name + 16 + no_tags_bytes
layout_bytes (kinds.Partition index topic state) = partition_bytes state
layout_bytes (kinds.Config kind name key value) = 1 + text_bytes name + text_bytes key + text_or_null_bytes value + no_tags_bytes
layout_bytes (kinds.PartitionChange index topic change) = change_bytes change
layout_bytes (kinds.FenceBroker broker epoch) = 4 + 8 + no_tags_bytes
layout_bytes (kinds.UnfenceBroker broker epoch) = 4 + 8 + no_tags_bytes
layout_bytes (kinds.RemoveTopic topic) = 16 + no_tags_bytes
layout_bytes (kinds.FeatureLevel name level) = text_bytes name + 2 + no_tags_bytes
layout_bytes (kinds.BrokerRegistrationChange broker epoch fenced stopping) =
    4 + 8 + tags_bytes (number_field 1 (pos 0) fenced ∷ number_field 1 (pos 0) stopping ∷ [])
layout_bytes kinds.NoOp = no_tags_bytes
layout_bytes (kinds.BeginTransaction name) = tags_bytes (text_field name ∷ [])
layout_bytes kinds.EndTransaction = no_tags_bytes
layout_bytes (kinds.AbortTransaction reason) = tags_bytes (text_field reason ∷ [])

unfoldable pub value_bytes : Record → ℕ
value_bytes r = frame_bytes + layout_bytes r
