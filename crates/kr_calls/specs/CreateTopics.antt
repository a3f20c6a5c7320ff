-- Kafka's CreateTopics, version 7. Topic ids, placement, and the order of refusals and of records are this project's own.
use Rattle.std.specs.Prelude.{◌+◌, ◌*◌, ◌^◌, ℕ, ℤ, pos, negsuc, int_lt, int_le, Bool, true, false, not, ◌&&◌, ◌||◌, ◌==◌, List, [], ◌∷◌, ◌++◌, length, find, slice_get, Option, Some, is_some, unwrap_or, option_map, Result, Ok, if◌then◌else◌, unsigned_abs, bytes_eq, filter_map}
use Rattle.std.specs.List.{list_all, list_any, range_with_len}
use Rattle.std.specs.Option.{option_map_or}
use Rattle.std.specs.Ordering.{int_eq}
use Rattle.kr_defs.specs.declared.limits.TheConstants.{MOST_TARGETS}
use Rattle.kr_defs.specs.declared.options.Options.{Options}
use Rattle.kr_defs.specs.declared.record.ConfigKey.{ConfigKey}
use Rattle.kr_defs.specs.declared.record.Record.{Record}
use Rattle.kr_defs.specs.Map as entries
use Rattle.kr_defs.specs.declared.record.Record.TheVariants as kinds
use Rattle.kr_defs.specs.Apply.{topic_kind}
use Rattle.kr_defs.specs.Brokers.{active}
use Rattle.kr_defs.specs.Guard.{and_then, refuse◌when◌else◌}
use Rattle.kr_defs.specs.Image.{Image, has_topic}
use Rattle.kr_defs.specs.Map.{config_order, text_order}
use Rattle.kr_defs.specs.Settings.{is_setting_key, is_setting_value}
use Rattle.kr_defs.specs.Texts.{is_topic_name, names_agree}
use Rattle.kr_calls.specs.declared.errors.TheConstants.{INVALID_CONFIG, INVALID_PARTITIONS, INVALID_REPLICATION_FACTOR, INVALID_REPLICA_ASSIGNMENT, INVALID_REQUEST, INVALID_TOPIC_EXCEPTION, TOPIC_ALREADY_EXISTS}
use Rattle.kr_calls.specs.declared.calls.Reply.{Reply}
use Rattle.kr_calls.specs.declared.deciding.Draft.{Draft}
use Rattle.kr_calls.specs.declared.create_topics.CreatableReplicaAssignment.{CreatableReplicaAssignment}
use Rattle.kr_calls.specs.declared.create_topics.CreatableTopic.{CreatableTopic}
use Rattle.kr_calls.specs.declared.create_topics.CreatableTopicConfig.{CreatableTopicConfig}
use Rattle.kr_calls.specs.declared.create_topics.CreatableTopicResult.{CreatableTopicResult}
use Rattle.kr_calls.specs.declared.create_topics.CreateTopics.{CreateTopics}
use Rattle.kr_calls.specs.declared.calls.Reply.TheVariants as replies
use Rattle.kr_calls.specs.Deciding.{Work, after_all, answers, nothing_decided, unless_validating}
use Rattle.kr_calls.specs.NewPartitions.{is_assignable, new_partitions, placements}
use Rattle.kr_calls.specs.Refuse.{refused_create_topics}

-- how many partitions and replicas a topic is created with, and the replicas of each partition, by index
pub record Layout : Type 0 where
  pub partitions : ℤ
  pub factor : ℤ
  pub replicas : List (List ℤ)

-- ---- with assignments

-- the replicas that are asked for at an index
abbrev pub assigned_at : List CreatableReplicaAssignment → ℕ → Option (List ℤ)
assigned_at assignments index = option_map (λ a. a.brokers) (find (λ a. int_eq a.index (pos index)) assignments)

-- the indexes from 0 on, as many as there are assignments
abbrev pub indexes_of : List CreatableReplicaAssignment → List ℕ
indexes_of assignments = range_with_len 0 (length assignments)

-- each of these indexes is assigned, and so each of them once
abbrev pub are_whole : List CreatableReplicaAssignment → Bool
are_whole assignments = list_all (λ index. is_some (assigned_at assignments index)) (indexes_of assignments)

-- how many replicas the first assignment has
abbrev pub first_size : List CreatableReplicaAssignment → ℕ
first_size assignments = option_map_or (λ a. length a.brokers) (slice_get assignments 0) 0

-- each may be that of a new partition, with as many replicas as the first
abbrev pub are_assignable : Image → List CreatableReplicaAssignment → Bool
are_assignable image assignments =
    list_all (λ a. is_assignable image a.brokers && length a.brokers == first_size assignments) assignments

abbrev pub assigned : Image → CreatableTopic → Result Layout ℤ
assigned image entry =
    refuse INVALID_REQUEST when not (int_eq entry.partitions (negsuc 0)) || not (int_eq entry.factor (negsuc 0)) else
    refuse INVALID_REPLICA_ASSIGNMENT when not (are_whole entry.assignments) || not (are_assignable image entry.assignments) else
    Ok (record {
      partitions = pos (length entry.assignments);
      factor = pos (first_size entry.assignments);
      replicas = filter_map (assigned_at entry.assignments) (indexes_of entry.assignments);
    })

-- ---- without assignments

-- -1 stands for the default
abbrev pub or_default : ℤ → ℤ → ℤ
or_default asked otherwise = if int_eq asked (negsuc 0) then otherwise else asked

-- 1 to 32 replicas, and no more than there are active brokers
abbrev pub is_factor : Image → ℤ → Bool
is_factor image factor =
    int_le (pos 1) factor && int_le factor (pos MOST_TARGETS) && int_le factor (pos (length (active image)))

abbrev pub spread : Image → ℤ → ℤ → ℤ → Result Layout ℤ
spread image place partitions factor =
    refuse INVALID_PARTITIONS when int_lt partitions (pos 1) else
    refuse INVALID_REPLICATION_FACTOR when not (is_factor image factor) else
    Ok (record {
      partitions = partitions;
      factor = factor;
      replicas = placements image place 0 (unsigned_abs partitions) (unsigned_abs factor);
    })

abbrev pub layout : Options → Image → ℤ → CreatableTopic → Result Layout ℤ
layout options image place entry =
    if length entry.assignments == 0
    then spread image place (or_default entry.partitions options.partitions) (or_default entry.factor options.factor)
    else assigned image entry

-- ---- settings

-- its key or its value can't be, or it has no value
abbrev pub is_bad_setting : CreatableTopicConfig → Bool
is_bad_setting setting =
    not (is_setting_key setting.name) || option_map_or (λ value. not (is_setting_value setting.name value)) setting.value true

-- a record for each setting whose value is new where it stands
abbrev pub settings_records : List (ConfigKey × List ℕ) → List ℕ → List CreatableTopicConfig → List Record
settings_records configs topic [] = []
settings_records configs topic (setting ∷ settings) =
    let key : ConfigKey = record { kind = topic_kind; name = topic; key = setting.name } in
    let value = unwrap_or setting.value [] in
    if option_map_or (bytes_eq value) (entries.get config_order configs key) false
    then settings_records configs topic settings
    else kinds.Config topic_kind topic setting.name (Some value)
    ∷ settings_records (entries.insert config_order configs key value) topic settings

-- ---- the topic

-- with the options' salt as its high half, the least above the place that no topic has
abbrev pub new_id : Options → Image → ℤ → ℕ
new_id options image place =
    let first = options.salt * 2 ^ 64 + unsigned_abs place + 1 in
    unwrap_or (find (λ id. not (has_topic image.topics id)) (range_with_len first (length image.topics + 1))) first

-- the topic, its settings, and its partitions by index
abbrev pub created : Image → Bool → ℕ → CreatableTopic → Layout → Draft CreatableTopicResult
created image validate_only id entry layout = record {
  records =
      kinds.Topic entry.name id
      ∷ settings_records image.configs entry.name entry.configs
      ++ new_partitions image id 0 layout.replicas;
  answer = record {
    name = entry.name;
    topic = if validate_only then 0 else id;
    error = pos 0;
    partitions = layout.partitions;
    factor = layout.factor;
  };
}

abbrev pub of_layout : Options → Bool → Image → ℤ → CreatableTopic → Layout → Result (Draft CreatableTopicResult) ℤ
of_layout options validate_only image place entry layout =
    refuse INVALID_CONFIG when list_any is_bad_setting entry.configs else
    Ok (created image validate_only (new_id options image place) entry layout)

-- the name is that of no topic, up to `.` and `_`
abbrev pub rule : Options → Bool → Image → ℤ → CreatableTopic → Result (Draft CreatableTopicResult) ℤ
rule options validate_only image place entry =
    refuse INVALID_TOPIC_EXCEPTION when not (is_topic_name entry.name) else
    refuse TOPIC_ALREADY_EXISTS when entries.contains text_order image.topics entry.name else
    refuse INVALID_TOPIC_EXCEPTION when list_any (λ topic. names_agree topic.0 entry.name) image.topics else
    and_then (layout options image place entry) (λ layout. of_layout options validate_only image place entry layout)

-- ---- the whole request

abbrev pub reply_of : List CreatableTopicResult → Reply
reply_of topics = replies.CreateTopics (record { topics = topics })

unfoldable pub decided : Options → Image → ℤ → CreateTopics → Work × Reply
decided options image place request =
    let start = nothing_decided place image in (
      unless_validating request.validate_only start (after_all refused_create_topics (rule options request.validate_only) start request.topics),
      reply_of (answers refused_create_topics (rule options request.validate_only) start request.topics),
    )
