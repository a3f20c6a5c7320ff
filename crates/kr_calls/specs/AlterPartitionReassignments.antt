-- Kafka's AlterPartitionReassignments, version 0 (KIP-455). The order of refusals is this project's own.
use Rattle.std.specs.Prelude.{ℕ, ℤ, pos, Bool, not, ◌&&◌, ◌==◌, List, [], length, map, Option, Some, None, Result, Ok}
use Rattle.std.specs.List.{list_all}
use Rattle.std.specs.Ordering.{int_cmp}
use Rattle.kr_defs.specs.declared.changing.Want.{Want}
use Rattle.kr_defs.specs.declared.options.Options.{Options}
use Rattle.kr_defs.specs.declared.partition.Partition.{Partition}
use Rattle.kr_defs.specs.declared.partition.PartitionChange.{PartitionChange}
use Rattle.kr_defs.specs.Map as entries
use Rattle.kr_defs.specs.Build.{built}
use Rattle.kr_defs.specs.DefaultWant.{default_want}
use Rattle.kr_defs.specs.Guard.{and_then, found, refuse◌when◌else◌}
use Rattle.kr_defs.specs.Ids.{are_apart}
use Rattle.kr_defs.specs.Image.{Image}
use Rattle.kr_defs.specs.Map.{partition_order, text_order}
use Rattle.kr_defs.specs.Partition.{are_targets, is_moving, original, target}
use Rattle.kr_defs.specs.Reassign.{added, reassigned, removed}
use Rattle.kr_defs.specs.Settings.{facts_of, is_unclean}
use Rattle.kr_defs.specs.Walk.{change_records}
use Rattle.kr_calls.specs.declared.errors.TheConstants.{INVALID_REPLICA_ASSIGNMENT, NO_REASSIGNMENT_IN_PROGRESS, UNKNOWN_TOPIC_OR_PARTITION}
use Rattle.kr_calls.specs.declared.calls.Reply.{Reply}
use Rattle.kr_calls.specs.declared.deciding.Draft.{Draft}
use Rattle.kr_calls.specs.declared.alter_partition_reassignments.AlterPartitionReassignments.{AlterPartitionReassignments}
use Rattle.kr_calls.specs.declared.alter_partition_reassignments.ReassignablePartition.{ReassignablePartition}
use Rattle.kr_calls.specs.declared.alter_partition_reassignments.ReassignablePartitionResponse.{ReassignablePartitionResponse}
use Rattle.kr_calls.specs.declared.alter_partition_reassignments.ReassignableTopic.{ReassignableTopic}
use Rattle.kr_calls.specs.declared.alter_partition_reassignments.ReassignableTopicResponse.{ReassignableTopicResponse}
use Rattle.kr_calls.specs.declared.calls.Reply.TheVariants as replies
use Rattle.kr_calls.specs.Deciding.{Work, after_groups, nothing_decided, group_answers}

-- a partition of a topic, and the replicas that it is to have
abbrev pub Entry : Type 0
Entry = List ℕ × ReassignablePartition

abbrev pub answer : ℤ → Entry → ReassignablePartitionResponse
answer error entry = record { index = entry.1.index; error = error }

abbrev pub drafted : Entry → ℕ → Option PartitionChange → Draft ReassignablePartitionResponse
drafted entry id change = record { records = change_records id entry.1.index change; answer = answer (pos 0) entry }

-- ---- what is asked for

-- the lists while a reassignment to the target runs
abbrev pub leading_to : Partition → List ℤ → Want
leading_to p target = record (default_want p) {
  replicas = reassigned target (original p);
  adding = added target (original p);
  removing = removed target (original p);
}

-- the replicas before the reassignment that runs
abbrev pub leading_back : Partition → Want
leading_back p = record (default_want p) { replicas = original p; adding = []; removing = [] }

-- 1 to 32 registered brokers, each once
abbrev pub is_target : Image → List ℤ → Bool
is_target image ids = are_targets ids && list_all (entries.contains int_cmp image.brokers) ids

-- without replicas the reassignment that runs is cancelled
abbrev pub wanted : Image → Partition → Option (List ℤ) → Result Want ℤ
wanted image p None = refuse NO_REASSIGNMENT_IN_PROGRESS when not (is_moving p) else Ok (leading_back p)
wanted image p (Some target) = refuse INVALID_REPLICA_ASSIGNMENT when not (is_target image target) else Ok (leading_to p target)

-- all that is in sync would go, and records may not be lost
abbrev pub loses_all : Image → List ℕ → Partition → Want → Bool
loses_all image topic p want =
    not (length p.in_sync == 0) && are_apart p.in_sync want.replicas && not (is_unclean image topic)

-- ---- one partition

abbrev pub of_want : Options → Image → Entry → ℕ → Partition → Want → Result (Draft ReassignablePartitionResponse) ℤ
of_want options image entry id p want =
    refuse INVALID_REPLICA_ASSIGNMENT when loses_all image entry.0 p want else
    Ok (drafted entry id (built p want (facts_of options image entry.0)))

abbrev pub rule : Options → Image → ℤ → Entry → Result (Draft ReassignablePartitionResponse) ℤ
rule options image place entry =
    found UNKNOWN_TOPIC_OR_PARTITION (entries.get text_order image.topics entry.0) (λ id.
    found UNKNOWN_TOPIC_OR_PARTITION (entries.get partition_order image.partitions (id, entry.1.index)) (λ p.
    and_then (wanted image p entry.1.replicas) (λ want. of_want options image entry id p want)))

-- ---- the whole request

abbrev pub entries_of : ReassignableTopic → List Entry
entries_of topic = map (λ partition. (topic.name, partition)) topic.partitions

abbrev pub answer_of : ReassignableTopic → List ReassignablePartitionResponse → ReassignableTopicResponse
answer_of topic partitions = record { name = topic.name; partitions = partitions }

abbrev pub reply_of : List ReassignableTopicResponse → Reply
reply_of responses = replies.AlterPartitionReassignments (record { error = pos 0; responses = responses })

unfoldable pub decided : Options → Image → ℤ → AlterPartitionReassignments → Work × Reply
decided options image place request =
    let start = nothing_decided place image in (
      after_groups answer (rule options) entries_of answer_of start request.topics,
      reply_of (group_answers answer (rule options) entries_of answer_of start request.topics),
    )
