-- How entries are judged where the active brokers were grouped by rack once for the whole request, and where an entry is
-- refused before its records are made that asks for more partitions than the image has room for. This project's own: the
-- answers and records are those of the requests' own rules.
use Rattle.std.specs.Prelude.{◌+◌, ◌-◌, ℕ, ℤ, pos, int_le, int_lt, not, Bool, ◌&&◌, ◌==◌, nat_le, nat_lt, List, ◌∷◌, ◌++◌, length, map, unsigned_abs, Option, Some, None, Result, Ok, if◌then◌else◌}
use Rattle.std.specs.List.{list_any, range_with_len}
use Rattle.kr_defs.specs.declared.limits.TheConstants.{MOST_PARTITIONS, MOST_TARGETS}
use Rattle.kr_defs.specs.declared.options.Options.{Options}
use Rattle.kr_defs.specs.declared.record.Record.{Record}
use Rattle.kr_defs.specs.declared.record.Record.TheVariants as kinds
use Rattle.kr_defs.specs.Map as entries
use Rattle.kr_defs.specs.Guard.{and_then, found, refuse◌when◌else◌}
use Rattle.kr_defs.specs.Image.{Image}
use Rattle.kr_defs.specs.Map.{partition_order, text_order}
use Rattle.kr_defs.specs.Partition.{target}
use Rattle.kr_defs.specs.Texts.{is_topic_name, names_agree}
use Rattle.kr_defs.specs.Topics.{count_of}
use Rattle.kr_calls.specs.declared.errors.TheConstants.{INVALID_CONFIG, INVALID_PARTITIONS, INVALID_REPLICATION_FACTOR, INVALID_REPLICA_ASSIGNMENT, INVALID_TOPIC_EXCEPTION, TOPIC_ALREADY_EXISTS, UNKNOWN_TOPIC_OR_PARTITION}
use Rattle.kr_calls.specs.declared.deciding.Draft.{Draft}
use Rattle.kr_calls.specs.declared.create_topics.CreatableTopic.{CreatableTopic}
use Rattle.kr_calls.specs.declared.create_topics.CreatableTopicResult.{CreatableTopicResult}
use Rattle.kr_calls.specs.declared.create_partitions.CreatePartitions.{CreatePartitions}
use Rattle.kr_calls.specs.declared.create_partitions.CreatePartitionsAssignment.{CreatePartitionsAssignment}
use Rattle.kr_calls.specs.declared.create_partitions.CreatePartitionsTopic.{CreatePartitionsTopic}
use Rattle.kr_calls.specs.declared.create_partitions.CreatePartitionsTopicResult.{CreatePartitionsTopicResult}
use Rattle.kr_calls.specs.CreatePartitions as create_partitions
use Rattle.kr_calls.specs.CreateTopics as create_topics
use Rattle.kr_calls.specs.CreateTopics.{Layout}
use Rattle.kr_calls.specs.Deciding.{over_a_limit}
use Rattle.kr_calls.specs.NewPartitions.{new_partitions}
use Rattle.kr_calls.specs.declared.create_topics.CreateTopics.{CreateTopics}
use Rattle.kr_calls.specs.Refuse.{refused_create_partitions, refused_create_topics}
use Rattle.kr_rules.specs.Decisions.{DecidesUnless}
use Rattle.kr_store.specs.Images.{Images}
use Rattle.kr_place.specs.Placing.{Grouped, placed_in}

-- there is room for so many more partitions
abbrev pub has_room : Image → ℕ → Bool
has_room image count = nat_le count (MOST_PARTITIONS - length image.partitions)

-- the replicas of so many partitions from an index on, placed from a place on
abbrev pub placements_on : Grouped → ℤ → ℕ → ℕ → ℕ → List (List ℤ)
placements_on those place first count factor = map (λ index. placed_in those (unsigned_abs place + index) factor) (range_with_len first count)

-- ---- CreatePartitions

abbrev pub new_replicas_among : Grouped → Image → ℤ → ℕ → ℕ → ℕ → Option (List CreatePartitionsAssignment) → Result (List (List ℤ)) ℤ
new_replicas_among those image place first count size (Some assignments) = create_partitions.new_replicas image place first count size (Some assignments)
new_replicas_among those image place first count size None =
    refuse INVALID_REPLICATION_FACTOR when nat_lt those.count size else
    Ok (placements_on those place first count size)

-- the new partitions have the replicas that were given
abbrev pub grown_as_assigned : Image → CreatePartitionsTopic → ℕ → ℕ → ℕ → List CreatePartitionsAssignment → Result (Draft CreatePartitionsTopicResult) ℤ
grown_as_assigned image entry id first size assignments =
    refuse INVALID_REPLICA_ASSIGNMENT when not (create_partitions.are_assignable image (unsigned_abs entry.count - first) size assignments) else
    refuse over_a_limit when not (has_room image (length assignments)) else
    Ok (create_partitions.grown image id first entry (map (λ a. a.brokers) assignments))

-- the new partitions are placed
abbrev pub grown_by_placing : Grouped → Image → ℤ → CreatePartitionsTopic → ℕ → ℕ → ℕ → Result (Draft CreatePartitionsTopicResult) ℤ
grown_by_placing those image place entry id first size =
    let count = unsigned_abs entry.count - first in
    refuse INVALID_REPLICATION_FACTOR when nat_lt those.count size else
    refuse over_a_limit when not (has_room image count) else
    Ok (create_partitions.grown image id first entry (placements_on those place first count size))

-- a topic that has so many partitions, of which the first leads to so many replicas
abbrev pub of_size : Grouped → Image → ℤ → CreatePartitionsTopic → ℕ → ℕ → ℕ → Result (Draft CreatePartitionsTopicResult) ℤ
of_size those image place entry id first size =
    and_then (new_replicas_among those image place first (unsigned_abs entry.count - first) size entry.assignments) (λ lists.
    refuse over_a_limit when not (has_room image (length lists)) else
    Ok (create_partitions.grown image id first entry lists))

abbrev pub of_topic : Grouped → Image → ℤ → CreatePartitionsTopic → ℕ → ℕ → Result (Draft CreatePartitionsTopicResult) ℤ
of_topic those image place entry id first =
    refuse INVALID_PARTITIONS when int_le entry.count (pos first) else
    found INVALID_REPLICA_ASSIGNMENT (entries.get partition_order image.partitions (id, pos 0)) (λ p. of_size those image place entry id first (length (target p)))

abbrev pub create_partitions_by_racks : Grouped → Image → ℤ → CreatePartitionsTopic → Result (Draft CreatePartitionsTopicResult) ℤ
create_partitions_by_racks those image place entry =
    found UNKNOWN_TOPIC_OR_PARTITION (entries.get text_order image.topics entry.name) (λ id. of_topic those image place entry id (count_of image id))

-- ---- CreateTopics

abbrev pub is_factor_among : Grouped → ℤ → Bool
is_factor_among those factor = int_le (pos 1) factor && int_le factor (pos MOST_TARGETS) && int_le factor (pos those.count)

abbrev pub spread_among : Grouped → ℤ → ℤ → ℤ → Result Layout ℤ
spread_among those place partitions factor =
    refuse INVALID_PARTITIONS when int_lt partitions (pos 1) else
    refuse INVALID_REPLICATION_FACTOR when not (is_factor_among those factor) else
    Ok (record {
      partitions = partitions;
      factor = factor;
      replicas = placements_on those place 0 (unsigned_abs partitions) (unsigned_abs factor);
    })

-- as many partitions and replicas as were asked for, or the default
abbrev pub spread_of : Grouped → Options → ℤ → CreatableTopic → Result Layout ℤ
spread_of those options place entry =
    spread_among those place (create_topics.or_default entry.partitions options.partitions) (create_topics.or_default entry.factor options.factor)

abbrev pub layout_among : Grouped → Options → Image → ℤ → CreatableTopic → Result Layout ℤ
layout_among those options image place entry =
    if length entry.assignments == 0
    then spread_of those options place entry
    else create_topics.assigned image entry

-- so many partitions with these replicas
abbrev pub laid : ℤ → ℤ → List (List ℤ) → Layout
laid partitions factor lists = record { partitions = partitions; factor = factor; replicas = lists }

-- the records of a topic with these replicas
abbrev pub new_topic_records : Image → ℕ → CreatableTopic → List (List ℤ) → List Record
new_topic_records image id entry lists =
    kinds.Topic entry.name id ∷ create_topics.settings_records image.configs entry.name entry.configs ++ new_partitions image id 0 lists

-- the topic under the first id that is free
abbrev pub topic_draft : Options → Bool → Image → ℤ → CreatableTopic → Layout → Draft CreatableTopicResult
topic_draft options validate_only image place entry layout = create_topics.created image validate_only (create_topics.new_id options image place) entry layout

abbrev pub of_layout_with_room : Options → Bool → Image → ℤ → CreatableTopic → Layout → Result (Draft CreatableTopicResult) ℤ
of_layout_with_room options validate_only image place entry layout =
    refuse INVALID_CONFIG when list_any create_topics.is_bad_setting entry.configs else
    refuse over_a_limit when not (has_room image (length layout.replicas)) else
    Ok (topic_draft options validate_only image place entry layout)

-- the topic, where it has a layout
abbrev pub created_over : Options → Bool → Image → ℤ → CreatableTopic → Result Layout ℤ → Result (Draft CreatableTopicResult) ℤ
created_over options validate_only image place entry meaning = and_then meaning (λ layout. of_layout_with_room options validate_only image place entry layout)

-- the replicas are placed
abbrev pub created_by_placing : Grouped → Options → Bool → Image → ℤ → CreatableTopic → Result (Draft CreatableTopicResult) ℤ
created_by_placing those options validate_only image place entry =
    created_over options validate_only image place entry (spread_of those options place entry)

-- a topic whose name is a new one
abbrev pub created_new : Grouped → Options → Bool → Image → ℤ → CreatableTopic → Result (Draft CreatableTopicResult) ℤ
created_new those options validate_only image place entry =
    created_over options validate_only image place entry (layout_among those options image place entry)

abbrev pub create_topics_by_racks : Grouped → Options → Bool → Image → ℤ → CreatableTopic → Result (Draft CreatableTopicResult) ℤ
create_topics_by_racks those options validate_only image place entry =
    refuse INVALID_TOPIC_EXCEPTION when not (is_topic_name entry.name) else
    refuse TOPIC_ALREADY_EXISTS when entries.contains text_order image.topics entry.name else
    refuse INVALID_TOPIC_EXCEPTION when list_any (λ topic. names_agree topic.0 entry.name) image.topics else
    created_new those options validate_only image place entry

-- the records of a whole request, on brokers that were grouped
abbrev pub CreatesOn : Grouped → Options → Bool → ℤ → List CreatableTopic → Images → Images → List Record → Type 0
CreatesOn those options validate_only =
    DecidesUnless refused_create_topics (create_topics_by_racks those options validate_only) validate_only

-- the records of a whole request
abbrev pub CreatesTopics : Options → ℤ → CreateTopics → Images → Images → List Record → Type 0
CreatesTopics options place request =
    DecidesUnless refused_create_topics (create_topics.rule options request.validate_only) request.validate_only place request.topics

-- the records of a whole request for more partitions
abbrev pub CreatesPartitions : ℤ → CreatePartitions → Images → Images → List Record → Type 0
CreatesPartitions place request =
    DecidesUnless refused_create_partitions create_partitions.rule request.validate_only place request.topics
