-- Kafka's error numbers, as its `Errors` has them.
use Rattle.std.proofs.Common.{◌≡◌, pos, refl}
use Rattle.kr_calls.specs.declared.errors.TheConstants.{UNKNOWN_TOPIC_OR_PARTITION, INVALID_TOPIC_EXCEPTION, UNSUPPORTED_VERSION, TOPIC_ALREADY_EXISTS, INVALID_PARTITIONS, INVALID_REPLICATION_FACTOR, INVALID_REPLICA_ASSIGNMENT, INVALID_CONFIG, NOT_CONTROLLER, INVALID_REQUEST, POLICY_VIOLATION, FENCED_LEADER_EPOCH, UNKNOWN_LEADER_EPOCH, STALE_BROKER_EPOCH, PREFERRED_LEADER_NOT_AVAILABLE, ELIGIBLE_LEADERS_NOT_AVAILABLE, ELECTION_NOT_NEEDED, NO_REASSIGNMENT_IN_PROGRESS, INVALID_UPDATE_VERSION, UNKNOWN_TOPIC_ID, DUPLICATE_BROKER_REGISTRATION, BROKER_ID_NOT_REGISTERED, INCONSISTENT_CLUSTER_ID, INELIGIBLE_REPLICA, NEW_LEADER_ELECTED}

unknown_topic_or_partition : UNKNOWN_TOPIC_OR_PARTITION ≡ pos 3
unknown_topic_or_partition = refl

invalid_topic_exception : INVALID_TOPIC_EXCEPTION ≡ pos 17
invalid_topic_exception = refl

unsupported_version : UNSUPPORTED_VERSION ≡ pos 35
unsupported_version = refl

topic_already_exists : TOPIC_ALREADY_EXISTS ≡ pos 36
topic_already_exists = refl

invalid_partitions : INVALID_PARTITIONS ≡ pos 37
invalid_partitions = refl

invalid_replication_factor : INVALID_REPLICATION_FACTOR ≡ pos 38
invalid_replication_factor = refl

invalid_replica_assignment : INVALID_REPLICA_ASSIGNMENT ≡ pos 39
invalid_replica_assignment = refl

invalid_config : INVALID_CONFIG ≡ pos 40
invalid_config = refl

not_controller : NOT_CONTROLLER ≡ pos 41
not_controller = refl

invalid_request : INVALID_REQUEST ≡ pos 42
invalid_request = refl

policy_violation : POLICY_VIOLATION ≡ pos 44
policy_violation = refl

fenced_leader_epoch : FENCED_LEADER_EPOCH ≡ pos 74
fenced_leader_epoch = refl

unknown_leader_epoch : UNKNOWN_LEADER_EPOCH ≡ pos 75
unknown_leader_epoch = refl

stale_broker_epoch : STALE_BROKER_EPOCH ≡ pos 77
stale_broker_epoch = refl

preferred_leader_not_available : PREFERRED_LEADER_NOT_AVAILABLE ≡ pos 80
preferred_leader_not_available = refl

eligible_leaders_not_available : ELIGIBLE_LEADERS_NOT_AVAILABLE ≡ pos 83
eligible_leaders_not_available = refl

election_not_needed : ELECTION_NOT_NEEDED ≡ pos 84
election_not_needed = refl

no_reassignment_in_progress : NO_REASSIGNMENT_IN_PROGRESS ≡ pos 85
no_reassignment_in_progress = refl

invalid_update_version : INVALID_UPDATE_VERSION ≡ pos 95
invalid_update_version = refl

unknown_topic_id : UNKNOWN_TOPIC_ID ≡ pos 100
unknown_topic_id = refl

duplicate_broker_registration : DUPLICATE_BROKER_REGISTRATION ≡ pos 101
duplicate_broker_registration = refl

broker_id_not_registered : BROKER_ID_NOT_REGISTERED ≡ pos 102
broker_id_not_registered = refl

inconsistent_cluster_id : INCONSISTENT_CLUSTER_ID ≡ pos 104
inconsistent_cluster_id = refl

ineligible_replica : INELIGIBLE_REPLICA ≡ pos 107
ineligible_replica = refl

new_leader_elected : NEW_LEADER_ELECTED ≡ pos 108
new_leader_elected = refl
