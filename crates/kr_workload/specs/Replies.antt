-- Replies in which each error is 0.
use Rattle.std.specs.Prelude.{ℤ, pos, Bool, ◌&&◌, List}
use Rattle.std.specs.List.{list_all}
use Rattle.std.specs.Ordering.{int_eq}
use Rattle.kr_calls.specs.declared.alter_partition.AlterPartitionResult.{AlterPartitionResult}
use Rattle.kr_calls.specs.declared.alter_partition.AlterPartitionTopicResult.{AlterPartitionTopicResult}
use Rattle.kr_calls.specs.declared.alter_partition_reassignments.ReassignablePartitionResponse.{ReassignablePartitionResponse}
use Rattle.kr_calls.specs.declared.alter_partition_reassignments.ReassignableTopicResponse.{ReassignableTopicResponse}
use Rattle.kr_calls.specs.declared.calls.Reply.{Reply}
use Rattle.kr_calls.specs.declared.calls.Reply.TheVariants as replies
use Rattle.kr_calls.specs.declared.create_partitions.CreatePartitionsTopicResult.{CreatePartitionsTopicResult}
use Rattle.kr_calls.specs.declared.create_topics.CreatableTopicResult.{CreatableTopicResult}
use Rattle.kr_calls.specs.declared.delete_topics.DeletableTopicResult.{DeletableTopicResult}
use Rattle.kr_calls.specs.declared.elect_leaders.PartitionElectionResult.{PartitionElectionResult}
use Rattle.kr_calls.specs.declared.elect_leaders.ReplicaElectionResult.{ReplicaElectionResult}
use Rattle.kr_calls.specs.declared.incremental_alter_configs.ConfigResponse.{ConfigResponse}
use Rattle.kr_calls.specs.declared.metadata.MetadataPartition.{MetadataPartition}
use Rattle.kr_calls.specs.declared.metadata.MetadataTopic.{MetadataTopic}

abbrev pub is_none : ℤ → Bool
is_none error = int_eq error (pos 0)

-- ---- by topic, partition or resource

abbrev pub are_created : List CreatableTopicResult → Bool
are_created topics = list_all (λ (t : CreatableTopicResult). is_none t.error) topics

abbrev pub are_deleted : List DeletableTopicResult → Bool
are_deleted topics = list_all (λ (t : DeletableTopicResult). is_none t.error) topics

abbrev pub are_grown : List CreatePartitionsTopicResult → Bool
are_grown topics = list_all (λ (t : CreatePartitionsTopicResult). is_none t.error) topics

abbrev pub are_set : List ConfigResponse → Bool
are_set resources = list_all (λ (r : ConfigResponse). is_none r.error) resources

abbrev pub is_altered : AlterPartitionTopicResult → Bool
is_altered t = list_all (λ (p : AlterPartitionResult). is_none p.error) t.partitions

abbrev pub are_altered : List AlterPartitionTopicResult → Bool
are_altered topics = list_all is_altered topics

abbrev pub is_elected : ReplicaElectionResult → Bool
is_elected t = list_all (λ (p : PartitionElectionResult). is_none p.error) t.partitions

abbrev pub are_elected : List ReplicaElectionResult → Bool
are_elected topics = list_all is_elected topics

abbrev pub is_assigned : ReassignableTopicResponse → Bool
is_assigned t = list_all (λ (p : ReassignablePartitionResponse). is_none p.error) t.partitions

abbrev pub are_assigned : List ReassignableTopicResponse → Bool
are_assigned topics = list_all is_assigned topics

abbrev pub are_partitions_shown : List MetadataPartition → Bool
are_partitions_shown partitions = list_all (λ (p : MetadataPartition). is_none p.error) partitions

abbrev pub is_shown : MetadataTopic → Bool
is_shown t = is_none t.error && are_partitions_shown t.partitions

abbrev pub are_shown : List MetadataTopic → Bool
are_shown topics = list_all is_shown topics

-- ---- by reply, with the error for the whole

abbrev pub is_ok : Reply → Bool
is_ok (replies.BrokerRegistration r) = is_none r.error
is_ok (replies.BrokerHeartbeat r) = is_none r.error
is_ok (replies.UnregisterBroker r) = is_none r.error
is_ok (replies.CreateTopics r) = are_created r.topics
is_ok (replies.DeleteTopics r) = are_deleted r.responses
is_ok (replies.CreatePartitions r) = are_grown r.results
is_ok (replies.AlterPartition r) = is_none r.error && are_altered r.topics
is_ok (replies.ElectLeaders r) = is_none r.error && are_elected r.results
is_ok (replies.AlterPartitionReassignments r) = is_none r.error && are_assigned r.responses
is_ok (replies.ListPartitionReassignments r) = is_none r.error
is_ok (replies.IncrementalAlterConfigs r) = are_set r.responses
is_ok (replies.Metadata r) = are_shown r.topics
is_ok (replies.Bare error) = is_none error
