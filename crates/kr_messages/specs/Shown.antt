-- What is shown of a reply.
use Rattle.std.specs.Prelude.{◌≡◌, ◌⊎◌, ℕ, List, Result, Ok, Err}
use Rattle.kr_req.specs.declared.api.ApiKey.{ApiKey}
use Rattle.kr_req.specs.declared.api.ApiKey.TheVariants as apis
use Rattle.kr_messages.specs.declared.fault.MessageFault.{MessageFault}
use Rattle.kr_messages.specs.declared.fault.MessageFault.TheVariants as faults
use Rattle.kr_messages.specs.declared.message_type.ApiMessageType.{ApiMessageType}
use Rattle.kr_messages.specs.declared.message_type.ApiMessageType.TheVariants as types
use Rattle.kr_messages.specs.Forms.{Form, bare_form, reply_form}
use Rattle.kr_messages.specs.Layouts.{Encodes}
use Rattle.kr_messages.specs.Responses as responses

-- the text of the value that the bytes stand for
pub record ShowsText (f : Form) (bytes text : List ℕ) : Type 0 where
  pub value : f.Value
  pub stands : Encodes f.layout value bytes
  pub shown : text ≡ f.json value

abbrev pub StandForNone : Form → List ℕ → Type 0
StandForNone f bytes = (value : f.Value) → Encodes f.layout value bytes → ⊥

-- the body of the reply to a request of this key, of the version that is served
abbrev pub served_form : ApiKey → Form
served_form apis.BrokerRegistration = responses.broker_registration_response_form
served_form apis.BrokerHeartbeat = responses.broker_heartbeat_response_form
served_form apis.UnregisterBroker = responses.unregister_broker_response_form
served_form apis.CreateTopics = responses.create_topics_response_form
served_form apis.DeleteTopics = responses.delete_topics_response_form
served_form apis.CreatePartitions = responses.create_partitions_response_form
served_form apis.AlterPartition = responses.alter_partition_response_form
served_form apis.ElectLeaders = responses.elect_leaders_response_form
served_form apis.AlterPartitionReassignments = responses.alter_partition_reassignments_response_form
served_form apis.ListPartitionReassignments = responses.list_partition_reassignments_response_form
served_form apis.IncrementalAlterConfigs = responses.incremental_alter_configs_response_form
served_form apis.Metadata = responses.metadata_response_form

abbrev pub response_form : ApiMessageType → Form
response_form (types.Served api) = served_form api
response_form types.DescribeTopicPartitions = responses.describe_topic_partitions_response_form

-- The text of the reply, or of an error alone; or the bytes are neither. Want of memory is free.
abbrev pub ShowsReply : ApiMessageType → List ℕ → Result (List ℕ) MessageFault → Type 0
ShowsReply asked bytes (Ok text) = ShowsText (reply_form (response_form asked)) bytes text ⊎ ShowsText (reply_form bare_form) bytes text
ShowsReply asked bytes (Err faults.BadMessage) = StandForNone (reply_form (response_form asked)) bytes × StandForNone (reply_form bare_form) bytes
ShowsReply asked bytes (Err faults.NoMemory) = Unit {0}
