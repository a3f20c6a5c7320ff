-- Kafka's Metadata, version 12, as a controller answers it (this project's own: the controller isn't told, and a topic is
-- shown once).
use Rattle.std.specs.Prelude.{ℕ, ℤ, pos, negsuc, Bool, true, false, not, ◌==◌, List, [], ◌∷◌, filter, map, slice_get, Option, Some, None, Result, Ok, Err, if◌then◌else◌}
use Rattle.std.specs.List.{list_any}
use Rattle.std.specs.Option.{option_map_or}
use Rattle.std.specs.Ordering.{int_cmp, int_eq}
use Rattle.kr_defs.specs.declared.broker.Broker.{Broker}
use Rattle.kr_defs.specs.declared.broker.Endpoint.{Endpoint}
use Rattle.kr_defs.specs.declared.options.Options.{Options}
use Rattle.kr_defs.specs.declared.partition.Partition.{Partition}
use Rattle.kr_defs.specs.Map as entries
use Rattle.kr_defs.specs.Guard.{and_then, found, refuse◌when◌else◌}
use Rattle.kr_defs.specs.Image.{Image, topic_name}
use Rattle.kr_defs.specs.Map.{text_order}
use Rattle.kr_defs.specs.Topics.{is_named_once}
use Rattle.kr_defs.specs.Walk.{of_topic}
use Rattle.kr_calls.specs.declared.errors.TheConstants.{INVALID_REQUEST, LEADER_NOT_AVAILABLE, UNKNOWN_TOPIC_ID, UNKNOWN_TOPIC_OR_PARTITION}
use Rattle.kr_calls.specs.declared.calls.Reply.{Reply}
use Rattle.kr_calls.specs.declared.metadata.Metadata.{Metadata}
use Rattle.kr_calls.specs.declared.metadata.MetadataBroker.{MetadataBroker}
use Rattle.kr_calls.specs.declared.metadata.MetadataPartition.{MetadataPartition}
use Rattle.kr_calls.specs.declared.metadata.MetadataRequestTopic.{MetadataRequestTopic}
use Rattle.kr_calls.specs.declared.metadata.MetadataTopic.{MetadataTopic}
use Rattle.kr_calls.specs.declared.calls.Reply.TheVariants as replies

-- ---- brokers

-- where the broker is reached first
abbrev pub first_endpoint : Broker → Option Endpoint
first_endpoint state = slice_get state.endpoints 0

abbrev pub broker_of : ℤ × Broker → MetadataBroker
broker_of e = record {
  id = e.0;
  host = option_map_or (λ endpoint. endpoint.host) (first_endpoint e.1) [];
  port = option_map_or (λ endpoint. pos endpoint.port) (first_endpoint e.1) (pos 0);
  rack = e.1.rack;
}

-- the brokers that aren't fenced
abbrev pub is_online : Broker → Bool
is_online state = not state.fenced

abbrev pub brokers_of : Image → List MetadataBroker
brokers_of image = map broker_of (filter (λ e. is_online e.1) image.brokers)

-- ---- topics

-- a replica on a broker that is fenced or not registered
abbrev pub is_offline : Image → ℤ → Bool
is_offline image id = option_map_or (λ state. state.fenced) (entries.get int_cmp image.brokers id) true

-- where nobody leads
abbrev pub leader_error : Partition → ℤ
leader_error p = if int_eq p.leader (negsuc 0) then LEADER_NOT_AVAILABLE else pos 0

abbrev pub partition_metadata : Image → (ℕ × ℤ) × Partition → MetadataPartition
partition_metadata image e = record {
  error = leader_error e.1;
  index = e.0.1;
  leader = e.1.leader;
  leader_epoch = e.1.leader_epoch;
  replicas = e.1.replicas;
  in_sync = e.1.in_sync;
  offline = filter (is_offline image) e.1.replicas;
}

-- Kafka's number for operations that weren't asked for
abbrev pub no_operations : ℤ
no_operations = negsuc 2147483647

abbrev pub topic_metadata : Image → List ℕ × ℕ → MetadataTopic
topic_metadata image topic = record {
  error = pos 0;
  name = Some topic.0;
  topic = topic.1;
  internal = false;
  partitions = map (partition_metadata image) (of_topic topic.1 image.partitions);
  operations = no_operations;
}

-- a refused entry repeats what was given
abbrev pub refused : ℤ → MetadataRequestTopic → MetadataTopic
refused error entry = record {
  error = error;
  name = entry.name;
  topic = entry.topic;
  internal = false;
  partitions = [];
  operations = no_operations;
}

-- ---- the topics that are asked for

-- the topic with this name or id, or the error number for none
abbrev pub by_name_or_id : Image → Option (List ℕ) → ℕ → Result (List ℕ × ℕ) ℤ
by_name_or_id image (Some name) id = found UNKNOWN_TOPIC_OR_PARTITION (entries.get text_order image.topics name) (λ there. Ok (name, there))
by_name_or_id image None id = found UNKNOWN_TOPIC_ID (topic_name image.topics id) (λ name. Ok (name, id))

abbrev pub topic_asked_for : Image → MetadataRequestTopic → Result (List ℕ × ℕ) ℤ
topic_asked_for image entry = refuse INVALID_REQUEST when not (is_named_once entry.name entry.topic) else by_name_or_id image entry.name entry.topic

-- the topic, unless an earlier entry named it
abbrev pub new_to : List ℕ → List ℕ × ℕ → Result (List ℕ × ℕ) ℤ
new_to seen topic = refuse INVALID_REQUEST when list_any (λ id. id == topic.1) seen else Ok topic

abbrev pub shown : Image → MetadataRequestTopic → Result (List ℕ × ℕ) ℤ → MetadataTopic
shown image entry (Ok topic) = topic_metadata image topic
shown image entry (Err error) = refused error entry

-- the ids that were named so far
abbrev pub seen_with : List ℕ → Result (List ℕ × ℕ) ℤ → List ℕ
seen_with seen (Ok topic) = topic.1 ∷ seen
seen_with seen (Err error) = seen

-- each entry in order
abbrev pub topics_named : Image → List ℕ → List MetadataRequestTopic → List MetadataTopic
topics_named image seen [] = []
topics_named image seen (entry ∷ others) =
    shown image entry (and_then (topic_asked_for image entry) (new_to seen)) ∷ topics_named image (seen_with seen (topic_asked_for image entry)) others

-- all topics by name, or those that are named
abbrev pub topics_of : Image → Option (List MetadataRequestTopic) → List MetadataTopic
topics_of image None = map (topic_metadata image) image.topics
topics_of image (Some asked) = topics_named image [] asked

unfoldable pub queried : Options → Image → Metadata → Reply
queried options image request = replies.Metadata (record {
  brokers = brokers_of image;
  cluster = Some options.cluster;
  controller = negsuc 0;
  topics = topics_of image request.topics;
})
