-- Bodies of replies, field by field as in Kafka's schemas, of the versions that are served.
use Rattle.std.specs.Prelude.{codes}
use Rattle.kr_messages.specs.Forms.{Form, ◌∶◌, ◌▹◌, array_form, boolean_form, no_field, int8_form, int16_form, int32_form, int64_form, nullable_array_form, nullable_form, nullable_text_form, object_form, text_form, uuid_form}

abbrev pub broker_registration_response_form : Form
broker_registration_response_form =
    object_form (codes "throttleTimeMs" ∶ int32_form ▹ codes "errorCode" ∶ int16_form ▹ codes "brokerEpoch" ∶ int64_form ▹ no_field)

abbrev pub broker_heartbeat_response_form : Form
broker_heartbeat_response_form =
    object_form (codes "throttleTimeMs" ∶ int32_form ▹ codes "errorCode" ∶ int16_form ▹ codes "isCaughtUp" ∶ boolean_form ▹ codes "isFenced" ∶ boolean_form ▹
    codes "shouldShutDown" ∶ boolean_form ▹ no_field)

abbrev pub unregister_broker_response_form : Form
unregister_broker_response_form =
    object_form (codes "throttleTimeMs" ∶ int32_form ▹ codes "errorCode" ∶ int16_form ▹ codes "errorMessage" ∶ nullable_text_form ▹ no_field)

abbrev pub creatable_topic_configs_form : Form
creatable_topic_configs_form =
    object_form (codes "name" ∶ text_form ▹ codes "value" ∶ nullable_text_form ▹ codes "readOnly" ∶ boolean_form ▹ codes "configSource" ∶ int8_form ▹
    codes "isSensitive" ∶ boolean_form ▹ no_field)

abbrev pub creatable_topic_result_form : Form
creatable_topic_result_form =
    object_form (codes "name" ∶ text_form ▹ codes "topicId" ∶ uuid_form ▹ codes "errorCode" ∶ int16_form ▹ codes "errorMessage" ∶ nullable_text_form ▹
    codes "numPartitions" ∶ int32_form ▹ codes "replicationFactor" ∶ int16_form ▹ codes "configs" ∶ (nullable_array_form creatable_topic_configs_form) ▹ no_field)

abbrev pub create_topics_response_form : Form
create_topics_response_form =
    object_form (codes "throttleTimeMs" ∶ int32_form ▹ codes "topics" ∶ (array_form creatable_topic_result_form) ▹ no_field)

abbrev pub deletable_topic_result_form : Form
deletable_topic_result_form =
    object_form (codes "name" ∶ nullable_text_form ▹ codes "topicId" ∶ uuid_form ▹ codes "errorCode" ∶ int16_form ▹ codes "errorMessage" ∶ nullable_text_form ▹ no_field)

abbrev pub delete_topics_response_form : Form
delete_topics_response_form =
    object_form (codes "throttleTimeMs" ∶ int32_form ▹ codes "responses" ∶ (array_form deletable_topic_result_form) ▹ no_field)

abbrev pub create_partitions_topic_result_form : Form
create_partitions_topic_result_form =
    object_form (codes "name" ∶ text_form ▹ codes "errorCode" ∶ int16_form ▹ codes "errorMessage" ∶ nullable_text_form ▹ no_field)

abbrev pub create_partitions_response_form : Form
create_partitions_response_form =
    object_form (codes "throttleTimeMs" ∶ int32_form ▹ codes "results" ∶ (array_form create_partitions_topic_result_form) ▹ no_field)

abbrev pub alter_partition_data_form : Form
alter_partition_data_form =
    object_form (codes "partitionIndex" ∶ int32_form ▹ codes "errorCode" ∶ int16_form ▹ codes "leaderId" ∶ int32_form ▹ codes "leaderEpoch" ∶ int32_form ▹
    codes "isr" ∶ (array_form int32_form) ▹ codes "leaderRecoveryState" ∶ int8_form ▹ codes "partitionEpoch" ∶ int32_form ▹ no_field)

abbrev pub alter_partition_topic_data_form : Form
alter_partition_topic_data_form =
    object_form (codes "topicId" ∶ uuid_form ▹ codes "partitions" ∶ (array_form alter_partition_data_form) ▹ no_field)

abbrev pub alter_partition_response_form : Form
alter_partition_response_form =
    object_form (codes "throttleTimeMs" ∶ int32_form ▹ codes "errorCode" ∶ int16_form ▹ codes "topics" ∶ (array_form alter_partition_topic_data_form) ▹ no_field)

abbrev pub partition_result_form : Form
partition_result_form =
    object_form (codes "partitionId" ∶ int32_form ▹ codes "errorCode" ∶ int16_form ▹ codes "errorMessage" ∶ nullable_text_form ▹ no_field)

abbrev pub replica_election_result_form : Form
replica_election_result_form =
    object_form (codes "topic" ∶ text_form ▹ codes "partitionResult" ∶ (array_form partition_result_form) ▹ no_field)

abbrev pub elect_leaders_response_form : Form
elect_leaders_response_form =
    object_form (codes "throttleTimeMs" ∶ int32_form ▹ codes "errorCode" ∶ int16_form ▹ codes "replicaElectionResults" ∶ (array_form replica_election_result_form) ▹ no_field)

abbrev pub reassignable_partition_response_form : Form
reassignable_partition_response_form =
    object_form (codes "partitionIndex" ∶ int32_form ▹ codes "errorCode" ∶ int16_form ▹ codes "errorMessage" ∶ nullable_text_form ▹ no_field)

abbrev pub reassignable_topic_response_form : Form
reassignable_topic_response_form =
    object_form (codes "name" ∶ text_form ▹ codes "partitions" ∶ (array_form reassignable_partition_response_form) ▹ no_field)

abbrev pub alter_partition_reassignments_response_form : Form
alter_partition_reassignments_response_form =
    object_form (codes "throttleTimeMs" ∶ int32_form ▹ codes "errorCode" ∶ int16_form ▹ codes "errorMessage" ∶ nullable_text_form ▹
    codes "responses" ∶ (array_form reassignable_topic_response_form) ▹ no_field)

abbrev pub ongoing_partition_reassignment_form : Form
ongoing_partition_reassignment_form =
    object_form (codes "partitionIndex" ∶ int32_form ▹ codes "replicas" ∶ (array_form int32_form) ▹ codes "addingReplicas" ∶ (array_form int32_form) ▹
    codes "removingReplicas" ∶ (array_form int32_form) ▹ no_field)

abbrev pub ongoing_topic_reassignment_form : Form
ongoing_topic_reassignment_form =
    object_form (codes "name" ∶ text_form ▹ codes "partitions" ∶ (array_form ongoing_partition_reassignment_form) ▹ no_field)

abbrev pub list_partition_reassignments_response_form : Form
list_partition_reassignments_response_form =
    object_form (codes "throttleTimeMs" ∶ int32_form ▹ codes "errorCode" ∶ int16_form ▹ codes "errorMessage" ∶ nullable_text_form ▹
    codes "topics" ∶ (array_form ongoing_topic_reassignment_form) ▹ no_field)

abbrev pub alter_configs_resource_response_form : Form
alter_configs_resource_response_form =
    object_form (codes "errorCode" ∶ int16_form ▹ codes "errorMessage" ∶ nullable_text_form ▹ codes "resourceType" ∶ int8_form ▹ codes "resourceName" ∶ text_form ▹ no_field)

abbrev pub incremental_alter_configs_response_form : Form
incremental_alter_configs_response_form =
    object_form (codes "throttleTimeMs" ∶ int32_form ▹ codes "responses" ∶ (array_form alter_configs_resource_response_form) ▹ no_field)

abbrev pub metadata_response_broker_form : Form
metadata_response_broker_form =
    object_form (codes "nodeId" ∶ int32_form ▹ codes "host" ∶ text_form ▹ codes "port" ∶ int32_form ▹ codes "rack" ∶ nullable_text_form ▹ no_field)

abbrev pub metadata_response_partition_form : Form
metadata_response_partition_form =
    object_form (codes "errorCode" ∶ int16_form ▹ codes "partitionIndex" ∶ int32_form ▹ codes "leaderId" ∶ int32_form ▹ codes "leaderEpoch" ∶ int32_form ▹
    codes "replicaNodes" ∶ (array_form int32_form) ▹ codes "isrNodes" ∶ (array_form int32_form) ▹ codes "offlineReplicas" ∶ (array_form int32_form) ▹ no_field)

abbrev pub metadata_response_topic_form : Form
metadata_response_topic_form =
    object_form (codes "errorCode" ∶ int16_form ▹ codes "name" ∶ nullable_text_form ▹ codes "topicId" ∶ uuid_form ▹ codes "isInternal" ∶ boolean_form ▹
    codes "partitions" ∶ (array_form metadata_response_partition_form) ▹ codes "topicAuthorizedOperations" ∶ int32_form ▹ no_field)

abbrev pub metadata_response_form : Form
metadata_response_form =
    object_form (codes "throttleTimeMs" ∶ int32_form ▹ codes "brokers" ∶ (array_form metadata_response_broker_form) ▹ codes "clusterId" ∶ nullable_text_form ▹
    codes "controllerId" ∶ int32_form ▹ codes "topics" ∶ (array_form metadata_response_topic_form) ▹ no_field)

abbrev pub describe_topic_partitions_response_partition_form : Form
describe_topic_partitions_response_partition_form =
    object_form (codes "errorCode" ∶ int16_form ▹ codes "partitionIndex" ∶ int32_form ▹ codes "leaderId" ∶ int32_form ▹ codes "leaderEpoch" ∶ int32_form ▹
    codes "replicaNodes" ∶ (array_form int32_form) ▹ codes "isrNodes" ∶ (array_form int32_form) ▹ codes "eligibleLeaderReplicas" ∶ (nullable_array_form int32_form) ▹
    codes "lastKnownElr" ∶ (nullable_array_form int32_form) ▹ codes "offlineReplicas" ∶ (array_form int32_form) ▹ no_field)

abbrev pub describe_topic_partitions_response_topic_form : Form
describe_topic_partitions_response_topic_form =
    object_form (codes "errorCode" ∶ int16_form ▹ codes "name" ∶ nullable_text_form ▹ codes "topicId" ∶ uuid_form ▹ codes "isInternal" ∶ boolean_form ▹
    codes "partitions" ∶ (array_form describe_topic_partitions_response_partition_form) ▹ codes "topicAuthorizedOperations" ∶ int32_form ▹ no_field)

abbrev pub cursor_form : Form
cursor_form = object_form (codes "topicName" ∶ text_form ▹ codes "partitionIndex" ∶ int32_form ▹ no_field)

abbrev pub describe_topic_partitions_response_form : Form
describe_topic_partitions_response_form =
    object_form (codes "throttleTimeMs" ∶ int32_form ▹ codes "topics" ∶ (array_form describe_topic_partitions_response_topic_form) ▹
    codes "nextCursor" ∶ (nullable_form cursor_form) ▹ no_field)
