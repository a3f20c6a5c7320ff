-- The reply that refuses a request as a whole with one error number, after Kafka's AbstractRequest.getErrorResponse.
use Rattle.std.specs.Prelude.{ℤ, negsuc, true, false, [], map, None}
use Rattle.kr_calls.specs.declared.calls.Request.{Request}
use Rattle.kr_calls.specs.declared.calls.Request.TheVariants as requests
use Rattle.kr_calls.specs.declared.calls.Reply.{Reply}
use Rattle.kr_calls.specs.declared.calls.Reply.TheVariants as replies
use Rattle.kr_calls.specs.declared.incremental_alter_configs.ConfigResource.{ConfigResource}
use Rattle.kr_calls.specs.declared.incremental_alter_configs.ConfigResponse.{ConfigResponse}
use Rattle.kr_calls.specs.declared.create_topics.CreatableTopic.{CreatableTopic}
use Rattle.kr_calls.specs.declared.create_topics.CreatableTopicResult.{CreatableTopicResult}
use Rattle.kr_calls.specs.declared.delete_topics.DeleteTopicState.{DeleteTopicState}
use Rattle.kr_calls.specs.declared.delete_topics.DeletableTopicResult.{DeletableTopicResult}
use Rattle.kr_calls.specs.declared.create_partitions.CreatePartitionsTopic.{CreatePartitionsTopic}
use Rattle.kr_calls.specs.declared.create_partitions.CreatePartitionsTopicResult.{CreatePartitionsTopicResult}

-- a topic that isn't made has no id, no partitions and no replicas
abbrev pub refused_create_topics : ℤ → CreatableTopic → CreatableTopicResult
refused_create_topics error t = record { name = t.name; topic = 0; error = error; partitions = negsuc 0; factor = negsuc 0 }

abbrev pub refused_delete_topics : ℤ → DeleteTopicState → DeletableTopicResult
refused_delete_topics error t = record { name = t.name; topic = t.topic; error = error }

abbrev pub refused_create_partitions : ℤ → CreatePartitionsTopic → CreatePartitionsTopicResult
refused_create_partitions error t = record { name = t.name; error = error }

abbrev pub refused_incremental_alter_configs : ℤ → ConfigResource → ConfigResponse
refused_incremental_alter_configs error r = record { error = error; kind = r.kind; name = r.name }

-- Each entry of a request on topics or settings is refused, in its order; the other replies have an error of their own and
-- empty lists, but for Metadata, which shows none.
unfoldable pub refuse : Request → ℤ → Reply
refuse (requests.BrokerRegistration q) error = replies.BrokerRegistration (record { error = error; epoch = negsuc 0 })
refuse (requests.BrokerHeartbeat q) error =
    replies.BrokerHeartbeat (record { error = error; caught_up = false; fenced = true; should_shut_down = false })
refuse (requests.UnregisterBroker q) error = replies.UnregisterBroker (record { error = error })
refuse (requests.CreateTopics q) error = replies.CreateTopics (record { topics = map (refused_create_topics error) q.topics })
refuse (requests.DeleteTopics q) error = replies.DeleteTopics (record { responses = map (refused_delete_topics error) q.topics })
refuse (requests.CreatePartitions q) error = replies.CreatePartitions (record { results = map (refused_create_partitions error) q.topics })
refuse (requests.AlterPartition q) error = replies.AlterPartition (record { error = error; topics = [] })
refuse (requests.ElectLeaders q) error = replies.ElectLeaders (record { error = error; results = [] })
refuse (requests.AlterPartitionReassignments q) error = replies.AlterPartitionReassignments (record { error = error; responses = [] })
refuse (requests.ListPartitionReassignments q) error = replies.ListPartitionReassignments (record { error = error; topics = [] })
refuse (requests.IncrementalAlterConfigs q) error =
    replies.IncrementalAlterConfigs (record { responses = map (refused_incremental_alter_configs error) q.resources })
refuse (requests.Metadata q) error =
    replies.Metadata (record { brokers = []; cluster = None; controller = negsuc 0; topics = [] })
