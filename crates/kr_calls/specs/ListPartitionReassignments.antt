-- Kafka's ListPartitionReassignments, version 0 (KIP-455).
use Rattle.std.specs.Prelude.{ℕ, ℤ, pos, Bool, true, ◌&&◌, ◌==◌, List, length, filter, map, Option, Some, None, if◌then◌else◌, bytes_eq, filter_map}
use Rattle.std.specs.List.{list_any}
use Rattle.kr_defs.specs.declared.partition.Partition.{Partition}
use Rattle.kr_defs.specs.Ids.{has}
use Rattle.kr_defs.specs.Image.{Image}
use Rattle.kr_defs.specs.Partition.{is_moving}
use Rattle.kr_defs.specs.Walk.{of_topic}
use Rattle.kr_calls.specs.declared.calls.Reply.{Reply}
use Rattle.kr_calls.specs.declared.list_partition_reassignments.ListPartitionReassignments.{ListPartitionReassignments}
use Rattle.kr_calls.specs.declared.list_partition_reassignments.ListedTopic.{ListedTopic}
use Rattle.kr_calls.specs.declared.list_partition_reassignments.OngoingPartitionReassignment.{OngoingPartitionReassignment}
use Rattle.kr_calls.specs.declared.list_partition_reassignments.OngoingTopicReassignment.{OngoingTopicReassignment}
use Rattle.kr_calls.specs.declared.calls.Reply.TheVariants as replies

-- the partition is asked for by its topic's name and its index, or all are
abbrev pub is_asked : Option (List ListedTopic) → List ℕ → ℤ → Bool
is_asked None topic index = true
is_asked (Some topics) topic index = list_any (λ t. bytes_eq t.name topic && has t.partitions index) topics

abbrev pub ongoing : (ℕ × ℤ) × Partition → OngoingPartitionReassignment
ongoing e = record { index = e.0.1; replicas = e.1.replicas; adding = e.1.adding; removing = e.1.removing }

-- the partitions of a topic that are asked for and move, by index
abbrev pub ongoing_of : Image → Option (List ListedTopic) → List ℕ × ℕ → List OngoingPartitionReassignment
ongoing_of image asked topic =
    map ongoing (filter (λ e. is_moving e.1 && is_asked asked topic.0 e.0.1) (of_topic topic.1 image.partitions))

-- a topic with nothing to show isn't shown
abbrev pub shown : Image → Option (List ListedTopic) → List ℕ × ℕ → Option OngoingTopicReassignment
shown image asked topic =
    let partitions = ongoing_of image asked topic in
    if length partitions == 0 then None else Some (record { name = topic.0; partitions = partitions })

unfoldable pub queried : Image → ListPartitionReassignments → Reply
queried image request =
    replies.ListPartitionReassignments (record { error = pos 0; topics = filter_map (shown image request.topics) image.topics })
