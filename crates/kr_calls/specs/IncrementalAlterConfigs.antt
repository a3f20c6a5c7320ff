-- Kafka's IncrementalAlterConfigs, version 1 (KIP-339). Which keys are lists, the tests of values, and that a changed
-- minimum empties lists are this project's own.
use Rattle.std.specs.Prelude.{ℕ, ℤ, pos, Bool, true, false, not, ◌&&◌, ◌||◌, ◌==◌, List, [], ◌∷◌, ◌++◌, length, filter, find, fold, Option, Some, None, is_none, unwrap_or, option_map, Result, Ok, if◌then◌else◌, bytes_eq, filter_map}
use Rattle.std.specs.List.{list_any}
use Rattle.std.specs.Option.{option_map_or}
use Rattle.std.specs.Ordering.{int_eq}
use Rattle.kr_defs.specs.declared.options.Options.{Options}
use Rattle.kr_defs.specs.declared.partition.PartitionChange.{PartitionChange}
use Rattle.kr_defs.specs.declared.record.ConfigKey.{ConfigKey}
use Rattle.kr_defs.specs.declared.record.Record.{Record}
use Rattle.kr_defs.specs.Map as entries
use Rattle.kr_defs.specs.declared.record.Record.TheVariants as kinds
use Rattle.kr_defs.specs.Apply.{broker_kind, topic_kind}
use Rattle.kr_defs.specs.Eligible.{is_enough}
use Rattle.kr_defs.specs.Guard.{and_then, refuse◌when◌else◌}
use Rattle.kr_defs.specs.Image.{Image}
use Rattle.kr_defs.specs.Map.{config_order, text_order}
use Rattle.kr_defs.specs.NewPartition.{emptying}
use Rattle.kr_defs.specs.Settings.{is_broker_name, is_list_key, is_setting_key, is_setting_value, minimum_of}
use Rattle.kr_defs.specs.Texts.{joined, parts}
use Rattle.kr_defs.specs.Walk.{Walked, changes_of, walk}
use Rattle.kr_calls.specs.declared.errors.TheConstants.{INVALID_CONFIG, INVALID_REQUEST, UNKNOWN_TOPIC_OR_PARTITION}
use Rattle.kr_calls.specs.declared.calls.Reply.{Reply}
use Rattle.kr_calls.specs.declared.incremental_alter_configs.ConfigOperation.{ConfigOperation}
use Rattle.kr_calls.specs.declared.incremental_alter_configs.ConfigResource.{ConfigResource}
use Rattle.kr_calls.specs.declared.incremental_alter_configs.ConfigResponse.{ConfigResponse}
use Rattle.kr_calls.specs.declared.incremental_alter_configs.IncrementalAlterConfigs.{IncrementalAlterConfigs}
use Rattle.kr_calls.specs.declared.deciding.Draft.{Draft}
use Rattle.kr_calls.specs.declared.calls.Reply.TheVariants as replies
use Rattle.kr_calls.specs.Deciding.{Work, after_all, answers, nothing_decided, unless_validating}
use Rattle.kr_calls.specs.Refuse.{refused_incremental_alter_configs}

-- ---- Kafka's operations, on the value that a key has

abbrev pub is_set : ConfigOperation → Bool
is_set o = int_eq o.operation (pos 0)

abbrev pub is_delete : ConfigOperation → Bool
is_delete o = int_eq o.operation (pos 1)

abbrev pub is_append : ConfigOperation → Bool
is_append o = int_eq o.operation (pos 2)

abbrev pub is_subtract : ConfigOperation → Bool
is_subtract o = int_eq o.operation (pos 3)

-- it works on the parts of a list
abbrev pub is_of_parts : ConfigOperation → Bool
is_of_parts o = is_append o || is_subtract o

-- it is none of these, or lacks the value that it needs
abbrev pub is_bad_operation : ConfigOperation → Bool
is_bad_operation o = not (is_set o || is_delete o || is_of_parts o) || (is_none o.value && not (is_delete o))

-- the part comes last, where it isn't there
abbrev pub with_part : List (List ℕ) → List ℕ → List (List ℕ)
with_part there part = if list_any (bytes_eq part) there then there else there ++ part ∷ []

abbrev pub appended : List ℕ → List ℕ → List ℕ
appended value more = joined (fold with_part (parts value) (parts more))

abbrev pub subtracted : List ℕ → List ℕ → List ℕ
subtracted value those = joined (filter (λ part. not (list_any (bytes_eq part) (parts those))) (parts value))

-- the value that results; none where the setting goes
abbrev pub operated : ConfigOperation → Option (List ℕ) → Option (List ℕ)
operated o value =
    if is_delete o then None else
    if is_append o then Some (appended (unwrap_or value []) (unwrap_or o.value [])) else
    if is_subtract o then Some (subtracted (unwrap_or value []) (unwrap_or o.value [])) else
    o.value

-- ---- the operations of one resource, in order

-- the keys that were named, in the order of first naming, each with its value now
abbrev pub Values : Type 0
Values = List (List ℕ × Option (List ℕ))

abbrev pub key_of : ConfigResource → List ℕ → ConfigKey
key_of entry key = record { kind = entry.kind; name = entry.name; key = key }

abbrev pub value_now : Image → ConfigResource → Values → List ℕ → Option (List ℕ)
value_now image entry values key =
    unwrap_or (option_map (λ v. v.1) (find (λ v. bytes_eq v.0 key) values)) (entries.get config_order image.configs (key_of entry key))

abbrev pub with_value : Values → List ℕ → Option (List ℕ) → Values
with_value [] key value = (key, value) ∷ []
with_value (v ∷ values) key value = if bytes_eq v.0 key then (key, value) ∷ values else v ∷ with_value values key value

-- the value that results can be the key's
abbrev pub may_result : List ℕ → Option (List ℕ) → Bool
may_result key value = option_map_or (is_setting_value key) value true

abbrev pub after_operation : Image → ConfigResource → Values → ConfigOperation → Result Values ℤ
after_operation image entry values o =
    let value = operated o (value_now image entry values o.name) in
    refuse INVALID_REQUEST when is_bad_operation o else
    refuse INVALID_CONFIG when not (is_setting_key o.name) else
    refuse INVALID_CONFIG when is_of_parts o && not (is_list_key o.name) else
    refuse INVALID_CONFIG when not (may_result o.name value) else
    Ok (with_value values o.name value)

abbrev pub after_operations : Image → ConfigResource → Values → List ConfigOperation → Result Values ℤ
after_operations image entry values [] = Ok values
after_operations image entry values (o ∷ operations) =
    and_then (after_operation image entry values o) (λ after. after_operations image entry after operations)

-- ---- the records

abbrev pub is_same_value : Option (List ℕ) → Option (List ℕ) → Bool
is_same_value None None = true
is_same_value (Some value) (Some other) = bytes_eq value other
is_same_value value other = false

-- a record where the value differs at the end
abbrev pub config_record : Image → ConfigResource → List ℕ × Option (List ℕ) → Option Record
config_record image entry (key, value) =
    if is_same_value value (entries.get config_order image.configs (key_of entry key))
    then None else Some (kinds.Config entry.kind entry.name key value)

-- the settings with these values
abbrev pub with_values : List (ConfigKey × List ℕ) → ConfigResource → Values → List (ConfigKey × List ℕ)
with_values configs entry [] = configs
with_values configs entry ((key, None) ∷ values) = with_values (entries.remove config_order configs (key_of entry key)) entry values
with_values configs entry ((key, Some value) ∷ values) = with_values (entries.insert config_order configs (key_of entry key) value) entry values

-- its topic's minimum is another, enough are in sync for the new one, and replicas stand by
abbrev pub is_relieved : Options → Image → Image → Walked → Bool
is_relieved options before after w =
    not (int_eq (minimum_of options.minimum before w.topic) (minimum_of options.minimum after w.topic))
    && is_enough w.partition.replicas w.partition.in_sync (minimum_of options.minimum after w.topic)
    && not (length w.partition.eligible == 0 && length w.partition.last_known == 0)

-- where enough are in sync for the new minimum, none stands by (KIP-966)
abbrev pub relief : Options → Image → Image → Walked → Option PartitionChange
relief options before after w = if is_relieved options before after w then Some (emptying w.partition) else None

abbrev pub resource_records : Options → Image → ConfigResource → Values → List Record
resource_records options image entry values =
    let after = record image { configs = with_values image.configs entry values } in
    filter_map (config_record image entry) values ++ changes_of (relief options image after) (walk image)

-- ---- one resource

abbrev pub is_topic_kind : ConfigResource → Bool
is_topic_kind entry = int_eq entry.kind topic_kind

abbrev pub is_broker_kind : ConfigResource → Bool
is_broker_kind entry = int_eq entry.kind broker_kind

abbrev pub of_resource : Options → Image → ConfigResource → Result (Draft ConfigResponse) ℤ
of_resource options image entry = and_then (after_operations image entry [] entry.configs) (λ values. Ok (record {
  records = resource_records options image entry values;
  answer = refused_incremental_alter_configs (pos 0) entry;
}))

abbrev pub rule : Options → Image → ℤ → ConfigResource → Result (Draft ConfigResponse) ℤ
rule options image place entry =
    refuse INVALID_REQUEST when not (is_topic_kind entry || is_broker_kind entry) else
    refuse UNKNOWN_TOPIC_OR_PARTITION when is_topic_kind entry && not (entries.contains text_order image.topics entry.name) else
    refuse INVALID_REQUEST when is_broker_kind entry && not (is_broker_name entry.name) else
    of_resource options image entry

-- ---- the whole request

abbrev pub reply_of : List ConfigResponse → Reply
reply_of responses = replies.IncrementalAlterConfigs (record { responses = responses })

unfoldable pub decided : Options → Image → ℤ → IncrementalAlterConfigs → Work × Reply
decided options image place request =
    let start = nothing_decided place image in (
      unless_validating request.validate_only start (after_all refused_incremental_alter_configs (rule options) start request.resources),
      reply_of (answers refused_incremental_alter_configs (rule options) start request.resources),
    )
