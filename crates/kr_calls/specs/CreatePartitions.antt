-- Kafka's CreatePartitions, version 3 (KIP-195). The order of refusals is this project's own.
use Rattle.std.specs.Prelude.{◌-◌, ℕ, ℤ, pos, int_le, Bool, not, ◌&&◌, ◌==◌, nat_lt, List, length, map, Option, Some, None, Result, Ok, unsigned_abs}
use Rattle.std.specs.List.{list_all}
use Rattle.kr_defs.specs.Map as entries
use Rattle.kr_defs.specs.Brokers.{active}
use Rattle.kr_defs.specs.Guard.{and_then, found, refuse◌when◌else◌}
use Rattle.kr_defs.specs.Image.{Image}
use Rattle.kr_defs.specs.Map.{partition_order, text_order}
use Rattle.kr_defs.specs.Partition.{target}
use Rattle.kr_defs.specs.Topics.{count_of}
use Rattle.kr_calls.specs.declared.errors.TheConstants.{INVALID_PARTITIONS, INVALID_REPLICATION_FACTOR, INVALID_REPLICA_ASSIGNMENT, UNKNOWN_TOPIC_OR_PARTITION}
use Rattle.kr_calls.specs.declared.calls.Reply.{Reply}
use Rattle.kr_calls.specs.declared.deciding.Draft.{Draft}
use Rattle.kr_calls.specs.declared.create_partitions.CreatePartitions.{CreatePartitions}
use Rattle.kr_calls.specs.declared.create_partitions.CreatePartitionsAssignment.{CreatePartitionsAssignment}
use Rattle.kr_calls.specs.declared.create_partitions.CreatePartitionsTopic.{CreatePartitionsTopic}
use Rattle.kr_calls.specs.declared.create_partitions.CreatePartitionsTopicResult.{CreatePartitionsTopicResult}
use Rattle.kr_calls.specs.declared.calls.Reply.TheVariants as replies
use Rattle.kr_calls.specs.Deciding.{Work, after_all, answers, nothing_decided, unless_validating}
use Rattle.kr_calls.specs.NewPartitions.{is_assignable, new_partitions, placements}
use Rattle.kr_calls.specs.Refuse.{refused_create_partitions}

-- as many lists as there are new partitions, and each may be that of a new partition with so many replicas
abbrev pub are_assignable : Image → ℕ → ℕ → List CreatePartitionsAssignment → Bool
are_assignable image count size assignments =
    length assignments == count && list_all (λ a. is_assignable image a.brokers && length a.brokers == size) assignments

-- the replicas of the new partitions, by index
abbrev pub new_replicas : Image → ℤ → ℕ → ℕ → ℕ → Option (List CreatePartitionsAssignment) → Result (List (List ℤ)) ℤ
new_replicas image place first count size (Some assignments) =
    refuse INVALID_REPLICA_ASSIGNMENT when not (are_assignable image count size assignments) else
    Ok (map (λ a. a.brokers) assignments)
new_replicas image place first count size None =
    refuse INVALID_REPLICATION_FACTOR when nat_lt (length (active image)) size else
    Ok (placements image place first count size)

abbrev pub grown : Image → ℕ → ℕ → CreatePartitionsTopic → List (List ℤ) → Draft CreatePartitionsTopicResult
grown image id first entry lists = record { records = new_partitions image id first lists; answer = refused_create_partitions (pos 0) entry }

-- a topic that has so many partitions; the new ones are as many replicas as its first one leads to
abbrev pub of_topic : Image → ℤ → CreatePartitionsTopic → ℕ → ℕ → Result (Draft CreatePartitionsTopicResult) ℤ
of_topic image place entry id first =
    refuse INVALID_PARTITIONS when int_le entry.count (pos first) else
    found INVALID_REPLICA_ASSIGNMENT (entries.get partition_order image.partitions (id, pos 0)) (λ p.
    and_then (new_replicas image place first (unsigned_abs entry.count - first) (length (target p)) entry.assignments) (λ lists.
    Ok (grown image id first entry lists)))

abbrev pub rule : Image → ℤ → CreatePartitionsTopic → Result (Draft CreatePartitionsTopicResult) ℤ
rule image place entry =
    found UNKNOWN_TOPIC_OR_PARTITION (entries.get text_order image.topics entry.name) (λ id. of_topic image place entry id (count_of image id))

abbrev pub reply_of : List CreatePartitionsTopicResult → Reply
reply_of results = replies.CreatePartitions (record { results = results })

unfoldable pub decided : Image → ℤ → CreatePartitions → Work × Reply
decided image place request =
    let start = nothing_decided place image in (
      unless_validating request.validate_only start (after_all refused_create_partitions rule start request.topics),
      reply_of (answers refused_create_partitions rule start request.topics),
    )
