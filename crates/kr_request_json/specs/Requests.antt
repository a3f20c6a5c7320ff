-- Bodies of requests, field by field as in Kafka's schemas.
use Rattle.std.specs.Prelude.{codes}
use Rattle.kr_request_json.specs.Inputs.{JsonInput, ◌≔◌, ◌⋄◌, array_input, boolean_input, int8_input, int16_input, int32_input, int64_input, no_more, nullable_array_input, nullable_input, nullable_text_input, text_input, uint16_input, uuid_input}

abbrev pub listener_input : JsonInput
listener_input =
    codes "name" ≔ text_input ⋄ codes "host" ≔ text_input ⋄ codes "port" ≔ uint16_input ⋄ codes "securityProtocol" ≔ int16_input ⋄ no_more

abbrev pub feature_input : JsonInput
feature_input =
    codes "name" ≔ text_input ⋄ codes "minSupportedVersion" ≔ int16_input ⋄ codes "maxSupportedVersion" ≔ int16_input ⋄ no_more

abbrev pub broker_registration_request_input : JsonInput
broker_registration_request_input =
    codes "brokerId" ≔ int32_input ⋄ codes "clusterId" ≔ text_input ⋄ codes "incarnationId" ≔ uuid_input ⋄
    codes "listeners" ≔ (array_input listener_input) ⋄ codes "features" ≔ (array_input feature_input) ⋄ codes "rack" ≔ nullable_text_input ⋄
    codes "isMigratingZkBroker" ≔ boolean_input ⋄ codes "logDirs" ≔ (array_input uuid_input) ⋄ codes "previousBrokerEpoch" ≔ int64_input ⋄ no_more

abbrev pub broker_heartbeat_request_input : JsonInput
broker_heartbeat_request_input =
    codes "brokerId" ≔ int32_input ⋄ codes "brokerEpoch" ≔ int64_input ⋄ codes "currentMetadataOffset" ≔ int64_input ⋄
    codes "wantFence" ≔ boolean_input ⋄ codes "wantShutDown" ≔ boolean_input ⋄ no_more

abbrev pub unregister_broker_request_input : JsonInput
unregister_broker_request_input = codes "brokerId" ≔ int32_input ⋄ no_more

abbrev pub creatable_replica_assignment_input : JsonInput
creatable_replica_assignment_input = codes "partitionIndex" ≔ int32_input ⋄ codes "brokerIds" ≔ (array_input int32_input) ⋄ no_more

abbrev pub creatable_topic_config_input : JsonInput
creatable_topic_config_input = codes "name" ≔ text_input ⋄ codes "value" ≔ nullable_text_input ⋄ no_more

abbrev pub creatable_topic_input : JsonInput
creatable_topic_input =
    codes "name" ≔ text_input ⋄ codes "numPartitions" ≔ int32_input ⋄ codes "replicationFactor" ≔ int16_input ⋄
    codes "assignments" ≔ (array_input creatable_replica_assignment_input) ⋄ codes "configs" ≔ (array_input creatable_topic_config_input) ⋄ no_more

abbrev pub create_topics_request_input : JsonInput
create_topics_request_input =
    codes "topics" ≔ (array_input creatable_topic_input) ⋄ codes "timeoutMs" ≔ int32_input ⋄ codes "validateOnly" ≔ boolean_input ⋄ no_more

abbrev pub delete_topic_state_input : JsonInput
delete_topic_state_input = codes "name" ≔ nullable_text_input ⋄ codes "topicId" ≔ uuid_input ⋄ no_more

abbrev pub delete_topics_request_input : JsonInput
delete_topics_request_input = codes "topics" ≔ (array_input delete_topic_state_input) ⋄ codes "timeoutMs" ≔ int32_input ⋄ no_more

abbrev pub create_partitions_assignment_input : JsonInput
create_partitions_assignment_input = codes "brokerIds" ≔ (array_input int32_input) ⋄ no_more

abbrev pub create_partitions_topic_input : JsonInput
create_partitions_topic_input =
    codes "name" ≔ text_input ⋄ codes "count" ≔ int32_input ⋄ codes "assignments" ≔ (nullable_array_input create_partitions_assignment_input) ⋄ no_more

abbrev pub create_partitions_request_input : JsonInput
create_partitions_request_input =
    codes "topics" ≔ (array_input create_partitions_topic_input) ⋄ codes "timeoutMs" ≔ int32_input ⋄ codes "validateOnly" ≔ boolean_input ⋄ no_more

abbrev pub broker_state_input : JsonInput
broker_state_input = codes "brokerId" ≔ int32_input ⋄ codes "brokerEpoch" ≔ int64_input ⋄ no_more

abbrev pub partition_data_input : JsonInput
partition_data_input =
    codes "partitionIndex" ≔ int32_input ⋄ codes "leaderEpoch" ≔ int32_input ⋄ codes "newIsrWithEpochs" ≔ (array_input broker_state_input) ⋄
    codes "leaderRecoveryState" ≔ int8_input ⋄ codes "partitionEpoch" ≔ int32_input ⋄ no_more

abbrev pub topic_data_input : JsonInput
topic_data_input = codes "topicId" ≔ uuid_input ⋄ codes "partitions" ≔ (array_input partition_data_input) ⋄ no_more

abbrev pub alter_partition_request_input : JsonInput
alter_partition_request_input =
    codes "brokerId" ≔ int32_input ⋄ codes "brokerEpoch" ≔ int64_input ⋄ codes "topics" ≔ (array_input topic_data_input) ⋄ no_more

abbrev pub topic_partitions_input : JsonInput
topic_partitions_input = codes "topic" ≔ text_input ⋄ codes "partitions" ≔ (array_input int32_input) ⋄ no_more

abbrev pub elect_leaders_request_input : JsonInput
elect_leaders_request_input =
    codes "electionType" ≔ int8_input ⋄ codes "topicPartitions" ≔ (nullable_array_input topic_partitions_input) ⋄ codes "timeoutMs" ≔ int32_input ⋄ no_more

abbrev pub reassignable_partition_input : JsonInput
reassignable_partition_input = codes "partitionIndex" ≔ int32_input ⋄ codes "replicas" ≔ (nullable_array_input int32_input) ⋄ no_more

abbrev pub reassignable_topic_input : JsonInput
reassignable_topic_input = codes "name" ≔ text_input ⋄ codes "partitions" ≔ (array_input reassignable_partition_input) ⋄ no_more

abbrev pub alter_partition_reassignments_request_input : JsonInput
alter_partition_reassignments_request_input = codes "timeoutMs" ≔ int32_input ⋄ codes "topics" ≔ (array_input reassignable_topic_input) ⋄ no_more

abbrev pub list_partition_reassignments_topics_input : JsonInput
list_partition_reassignments_topics_input = codes "name" ≔ text_input ⋄ codes "partitionIndexes" ≔ (array_input int32_input) ⋄ no_more

abbrev pub list_partition_reassignments_request_input : JsonInput
list_partition_reassignments_request_input =
    codes "timeoutMs" ≔ int32_input ⋄ codes "topics" ≔ (nullable_array_input list_partition_reassignments_topics_input) ⋄ no_more

abbrev pub alterable_config_input : JsonInput
alterable_config_input = codes "name" ≔ text_input ⋄ codes "configOperation" ≔ int8_input ⋄ codes "value" ≔ nullable_text_input ⋄ no_more

abbrev pub alter_configs_resource_input : JsonInput
alter_configs_resource_input =
    codes "resourceType" ≔ int8_input ⋄ codes "resourceName" ≔ text_input ⋄ codes "configs" ≔ (array_input alterable_config_input) ⋄ no_more

abbrev pub incremental_alter_configs_request_input : JsonInput
incremental_alter_configs_request_input =
    codes "resources" ≔ (array_input alter_configs_resource_input) ⋄ codes "validateOnly" ≔ boolean_input ⋄ no_more

abbrev pub metadata_request_topic_input : JsonInput
metadata_request_topic_input = codes "topicId" ≔ uuid_input ⋄ codes "name" ≔ nullable_text_input ⋄ no_more

abbrev pub metadata_request_input : JsonInput
metadata_request_input =
    codes "topics" ≔ (nullable_array_input metadata_request_topic_input) ⋄ codes "allowAutoTopicCreation" ≔ boolean_input ⋄
    codes "includeTopicAuthorizedOperations" ≔ boolean_input ⋄ no_more

abbrev pub topic_request_input : JsonInput
topic_request_input = codes "name" ≔ text_input ⋄ no_more

abbrev pub cursor_input : JsonInput
cursor_input = codes "topicName" ≔ text_input ⋄ codes "partitionIndex" ≔ int32_input ⋄ no_more

abbrev pub describe_topic_partitions_request_input : JsonInput
describe_topic_partitions_request_input =
    codes "topics" ≔ (array_input topic_request_input) ⋄ codes "responsePartitionLimit" ≔ int32_input ⋄
    codes "cursor" ≔ (nullable_input cursor_input) ⋄ no_more
