-- The message of a request's JSON, or the first reason why there is none.
use Rattle.std.specs.Prelude.{◌≡◌, ℕ, ℤ, List, Option, Some, None, option_map, Result, Ok, Err, codes, if◌then◌else◌}
use Rattle.std.specs.Str.{is_utf8}
use Rattle.serde_json.specs.Data.{Data}
use Rattle.serde_json.specs.Read.{read}
use Rattle.kr_wire.specs.Reading.{◌>>=◌}
use Rattle.kr_messages.specs.declared.message_type.ApiMessageType.{ApiMessageType}
use Rattle.kr_messages.specs.declared.message_type.ApiMessageType.TheVariants as types
use Rattle.kr_messages.specs.MessageTypes.{known_by}
use Rattle.kr_req.specs.declared.api.ApiKey.{ApiKey}
use Rattle.kr_req.specs.declared.api.ApiKey.TheVariants as apis
use Rattle.kr_request_json.specs.declared.fault.RequestFault.{RequestFault}
use Rattle.kr_request_json.specs.declared.fault.RequestFault.TheVariants as faults
use Rattle.kr_request_json.specs.Inputs.{JsonInput, pair_of, int16_of, member_of, message_input}
use Rattle.kr_request_json.specs.Requests as requests

-- what there is, or that fault
abbrev pub or_fault : {X : Type 0} → RequestFault → Option X → Result X RequestFault
or_fault fault None = Err fault
or_fault fault (Some x) = Ok x

-- the JSON that a text in UTF-8 is (RFC 8259)
abbrev pub json_of : List ℕ → Option Data
json_of text = if is_utf8 text then read text else None

-- the key and the version in a header
abbrev pub numbers_of : Data → Option (ℤ × ℤ)
numbers_of header = pair_of (member_of (codes "requestApiKey") int16_of header) (member_of (codes "requestApiVersion") int16_of header)

abbrev pub known_for : ℤ × ℤ → Result ApiMessageType RequestFault
known_for numbers = or_fault faults.UnknownRequest (known_by numbers.0 numbers.1)

-- which request it is, by its header
abbrev pub type_for : Data → Result ApiMessageType RequestFault
type_for json = or_fault faults.BadField (member_of (codes "requestHeader") numbers_of json) >>= known_for

abbrev pub served_input : ApiKey → JsonInput
served_input apis.BrokerRegistration = requests.broker_registration_request_input
served_input apis.BrokerHeartbeat = requests.broker_heartbeat_request_input
served_input apis.UnregisterBroker = requests.unregister_broker_request_input
served_input apis.CreateTopics = requests.create_topics_request_input
served_input apis.DeleteTopics = requests.delete_topics_request_input
served_input apis.CreatePartitions = requests.create_partitions_request_input
served_input apis.AlterPartition = requests.alter_partition_request_input
served_input apis.ElectLeaders = requests.elect_leaders_request_input
served_input apis.AlterPartitionReassignments = requests.alter_partition_reassignments_request_input
served_input apis.ListPartitionReassignments = requests.list_partition_reassignments_request_input
served_input apis.IncrementalAlterConfigs = requests.incremental_alter_configs_request_input
served_input apis.Metadata = requests.metadata_request_input

abbrev pub request_input : ApiMessageType → JsonInput
request_input (types.Served api) = served_input api
request_input types.DescribeTopicPartitions = requests.describe_topic_partitions_request_input

-- the bytes of the value that the JSON is
abbrev pub bytes_for : JsonInput → Data → Result (List ℕ) RequestFault
bytes_for f json = or_fault faults.BadField (option_map f.bytes (f.of_json json))

unfoldable pub message_for : Data → ApiMessageType → Result (List ℕ) RequestFault
message_for json asked = bytes_for (message_input (request_input asked)) json

abbrev pub request_for : Data → Result (List ℕ) RequestFault
request_for json = type_for json >>= message_for json

unfoldable pub message_of_text : List ℕ → Result (List ℕ) RequestFault
message_of_text text = or_fault faults.NotJson (json_of text) >>= request_for

-- that, or memory ran out
abbrev pub IsAnswerTo : {X : Type 0} → Result X RequestFault → Result X RequestFault → Type 0
IsAnswerTo (Err faults.NoMemory) meaning = Unit {0}
IsAnswerTo answer meaning = meaning ≡ answer
