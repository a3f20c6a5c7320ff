-- When a change of a partition loses no record that was acknowledged, or was asked for by a request that may lose some
-- (KIP-966's unclean elections, KIP-455's ends of reassignments; the statement is this project's own).
use Rattle.std.specs.Prelude.{◌≡◌, ℕ, ℤ, pos, negsuc, Bool, true, false, not, ◌&&◌, ◌||◌, ◌==◌, List, zip, Option, Some, None, IsTrue, bytes_eq}
use Rattle.std.specs.List.{list_any}
use Rattle.std.specs.Ordering.{int_eq}
use Rattle.kr_defs.specs.declared.partition.Partition.{Partition}
use Rattle.kr_defs.specs.declared.partition.PartitionChange.{PartitionChange}
use Rattle.kr_defs.specs.Map as entries
use Rattle.kr_defs.specs.Ids.{has, is_within}
use Rattle.kr_defs.specs.Image.{Image, topic_name}
use Rattle.kr_defs.specs.Map.{partition_order}
use Rattle.kr_defs.specs.Merge.{merged}
use Rattle.kr_defs.specs.Partition.{is_moving, target}
use Rattle.kr_defs.specs.Settings.{is_unclean}
use Rattle.kr_calls.specs.declared.calls.Reply.{Reply}
use Rattle.kr_calls.specs.declared.calls.Request.{Request}
use Rattle.kr_calls.specs.declared.alter_partition.AlterPartitionResult.{AlterPartitionResult}
use Rattle.kr_calls.specs.declared.alter_partition.AlterPartitionTopic.{AlterPartitionTopic}
use Rattle.kr_calls.specs.declared.alter_partition.AlterPartitionTopicResult.{AlterPartitionTopicResult}
use Rattle.kr_calls.specs.declared.alter_partition.PartitionReport.{PartitionReport}
use Rattle.kr_calls.specs.declared.alter_partition_reassignments.ReassignablePartition.{ReassignablePartition}
use Rattle.kr_calls.specs.declared.alter_partition_reassignments.ReassignablePartitionResponse.{ReassignablePartitionResponse}
use Rattle.kr_calls.specs.declared.alter_partition_reassignments.ReassignableTopic.{ReassignableTopic}
use Rattle.kr_calls.specs.declared.alter_partition_reassignments.ReassignableTopicResponse.{ReassignableTopicResponse}
use Rattle.kr_calls.specs.declared.calls.Reply.TheVariants as replies
use Rattle.kr_calls.specs.declared.calls.Request.TheVariants as requests
use Rattle.kr_calls.specs.declared.errors.TheConstants.{NEW_LEADER_ELECTED}
use Rattle.kr_calls.specs.AlterPartition.{is_accepted, is_stale, members}

-- a request, with the reply that its rules give
abbrev pub Exchange : Type 0
Exchange = Request × Reply

-- the request asks for an election of any replica
abbrev pub asks_unclean : Option Exchange → Bool
asks_unclean (Some (requests.ElectLeaders q, reply)) = int_eq q.kind (pos 1)
asks_unclean other = false

-- ---- reports, each with the answer that stands in its place

-- the report was taken: Kafka's NONE, or NEW_LEADER_ELECTED where by this very report another broker leads
abbrev pub is_report_taken : AlterPartitionResult → Bool
is_report_taken answer = int_eq answer.error (pos 0) || int_eq answer.error NEW_LEADER_ELECTED

-- a report of the partition was accepted on this image, and taken, and has the broker
abbrev pub is_report_with : ℤ → Image → ℤ → Partition → ℤ → PartitionReport × AlterPartitionResult → Bool
is_report_with broker image index p leader (report, answer) =
    int_eq report.index index && is_report_taken answer && is_accepted broker image p report && has (members report) leader

abbrev pub is_reported_in : ℤ → Image → ℕ × ℤ → Partition → ℤ → AlterPartitionTopic × AlterPartitionTopicResult → Bool
is_reported_in broker image key p leader (topic, answers) =
    topic.topic == key.0 && list_any (is_report_with broker image key.1 p leader) (zip topic.partitions answers.partitions)

-- so has one of a request whose broker is registered with the epoch that it gives
abbrev pub reports : Image → ℕ × ℤ → Partition → ℤ → Option Exchange → Bool
reports image key p leader (Some (requests.AlterPartition q, replies.AlterPartition r)) =
    not (is_stale image q) && list_any (is_reported_in q.broker image key p leader) (zip q.topics r.topics)
reports image key p leader other = false

-- ---- reassignments, the same

-- the partition's entry was taken
abbrev pub is_reassigned : ℤ → ReassignablePartition × ReassignablePartitionResponse → Bool
is_reassigned index (entry, answer) = int_eq entry.index index && int_eq answer.error (pos 0)

abbrev pub is_reassigned_in : List ℕ → ℤ → ReassignableTopic × ReassignableTopicResponse → Bool
is_reassigned_in name index (topic, answers) = bytes_eq topic.name name && list_any (is_reassigned index) (zip topic.partitions answers.partitions)

-- the request has an entry for this partition that was taken
abbrev pub reassigns : List ℕ → ℤ → Option Exchange → Bool
reassigns name index (Some (requests.AlterPartitionReassignments q, replies.AlterPartitionReassignments r)) =
    list_any (is_reassigned_in name index) (zip q.topics r.responses)
reassigns name index other = false

-- ---- changes

-- a leader that is named was in sync or eligible, unless records may be lost or a report has it
abbrev pub has_safe_leader : Image → List ℕ → ℕ × ℤ → Partition → Option Exchange → Option ℤ → Bool
has_safe_leader image name key p exchange None = true
has_safe_leader image name key p exchange (Some leader) =
    int_eq leader (negsuc 0) || has p.in_sync leader || has p.eligible leader
    || (is_unclean image name || asks_unclean exchange || reports image key p leader exchange)

-- a reassignment ends, with all replicas that it leads to in sync, or by request
abbrev pub has_safe_end : List ℕ → ℤ → Partition → Option Exchange → Partition → Bool
has_safe_end name index p exchange after =
    not (is_moving p) || is_moving after || is_within (target p) after.in_sync || reassigns name index exchange

-- the change of the partition of this topic, just below whose place the image stands
unfoldable pub is_safe : Image → Option Exchange → List ℕ → ℕ × ℤ → Partition → PartitionChange → Bool
is_safe image exchange name key p change =
    has_safe_leader image name key p exchange change.leader && has_safe_end name key.1 p exchange (merged p change)

pub record SafeChange (image : Image) (exchange : Option Exchange) (index : ℤ) (topic : ℕ) (change : PartitionChange) : Type 0 where
  pub name : List ℕ
  pub partition : Partition
  pub named : topic_name image.topics topic ≡ Some name
  pub stands : entries.get partition_order image.partitions (topic, index) ≡ Some partition
  pub safe : IsTrue (is_safe image exchange name (topic, index) partition change)
