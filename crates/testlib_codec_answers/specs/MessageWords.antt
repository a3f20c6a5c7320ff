-- The words in which a row tells what a request message asks, with the message that refuses it (this project's own).
use Rattle.std.specs.Prelude.{◌≡◌, ℕ, ℤ, List, ◌++◌, codes}
use Rattle.hex.specs.Hex.{encode_lower}
use Rattle.kr_calls.specs.declared.errors.TheConstants.{INVALID_REQUEST, NOT_CONTROLLER, UNSUPPORTED_VERSION}
use Rattle.kr_calls.specs.declared.calls.Ask.{Ask}
use Rattle.kr_calls.specs.declared.calls.Ask.TheVariants as asks
use Rattle.kr_calls.specs.declared.calls.AskFault.{AskFault}
use Rattle.kr_calls.specs.declared.calls.AskFault.TheVariants as faults
use Rattle.kr_calls.specs.declared.calls.Reply.{Reply}
use Rattle.kr_calls.specs.declared.calls.Reply.TheVariants as replies
use Rattle.kr_calls.specs.declared.calls.Request.{Request}
use Rattle.kr_calls.specs.declared.calls.Request.TheVariants as requests
use Rattle.kr_calls.specs.Refuse.{refuse}
use Rattle.kr_req.specs.Messages.{IsAsk}
use Rattle.kr_req.specs.WrittenReplies.{reply_bytes}

abbrev pub request_words : Request → List ℕ
request_words (requests.BrokerRegistration q) = codes "BrokerRegistration"
request_words (requests.BrokerHeartbeat q) = codes "BrokerHeartbeat"
request_words (requests.UnregisterBroker q) = codes "UnregisterBroker"
request_words (requests.CreateTopics q) = codes "CreateTopics"
request_words (requests.DeleteTopics q) = codes "DeleteTopics"
request_words (requests.CreatePartitions q) = codes "CreatePartitions"
request_words (requests.AlterPartition q) = codes "AlterPartition"
request_words (requests.ElectLeaders q) = codes "ElectLeaders"
request_words (requests.AlterPartitionReassignments q) = codes "AlterPartitionReassignments"
request_words (requests.ListPartitionReassignments q) = codes "ListPartitionReassignments"
request_words (requests.IncrementalAlterConfigs q) = codes "IncrementalAlterConfigs"
request_words (requests.Metadata q) = codes "Metadata"

-- Kafka's UNSUPPORTED_VERSION, and INVALID_REQUEST
abbrev pub error_of : AskFault → ℤ
error_of (faults.Unsupported key version) = UNSUPPORTED_VERSION
error_of other = INVALID_REQUEST

-- the reply of a node that isn't the controller (Kafka's NOT_CONTROLLER), or to a message that is no call
abbrev pub reply_to : Ask → Reply
reply_to (asks.Call call) = refuse call.request NOT_CONTROLLER
reply_to (asks.Bare correlation fault) = replies.Bare (error_of fault)

abbrev pub correlation_of : Ask → ℤ
correlation_of (asks.Call call) = call.correlation
correlation_of (asks.Bare correlation fault) = correlation

abbrev pub named_words : List ℕ → List ℕ → List ℕ
named_words name message = (codes "call " ++ name) ++ (codes " " ++ encode_lower message)

abbrev pub bare_words : List ℕ → List ℕ
bare_words message = codes "bare " ++ encode_lower message

-- what is asked, and a message
abbrev pub ask_words : Ask → List ℕ → List ℕ
ask_words (asks.Call call) message = named_words (request_words call.request) message
ask_words (asks.Bare correlation fault) message = bare_words message

-- what is asked, with the message that is written for the reply
abbrev pub told_words : Ask → List ℕ
told_words ask = ask_words ask (reply_bytes (correlation_of ask) (reply_to ask))

-- the words of what these bytes ask
pub record TellsMessage (bytes text : List ℕ) : Type 0 where
  pub ask : Ask
  pub is : IsAsk ask bytes
  pub told : text ≡ told_words ask
