-- What the bytes of messages stand for: Kafka's request header version 2 and response header version 1 before the bodies, and
-- Kafka's ApiKeys.
use Rattle.std.specs.Prelude.{◌≡◌, ℕ, ℤ, pos, negsuc, ◌<◌, ◌⊎◌, List, length, IsUtf8}
use Rattle.std.specs.Int.{w16, w32}
use Rattle.kr_wire.specs.Grammar.{◌⌢◌, Exactly, IsSigned, NoTags}
use Rattle.kr_wire.specs.Laws.{Front, IsBytes}
use Rattle.kr_calls.specs.declared.calls.Ask.{Ask}
use Rattle.kr_calls.specs.declared.calls.Ask.TheVariants as asks
use Rattle.kr_calls.specs.declared.calls.AskFault.TheVariants as faults
use Rattle.kr_calls.specs.declared.calls.Call.{Call}
use Rattle.kr_calls.specs.declared.calls.Request.{Request}
use Rattle.kr_calls.specs.declared.calls.Request.TheVariants as requests
use Rattle.kr_calls.specs.declared.calls.Reply.{Reply}
use Rattle.kr_calls.specs.declared.calls.Reply.TheVariants as replies
use Rattle.kr_req.specs.declared.api.ApiKey.{ApiKey}
use Rattle.kr_req.specs.declared.api.ApiKey.TheVariants as apis
use Rattle.kr_bodies.specs.BrokerHeartbeat.{IsBrokerHeartbeat, IsBrokerHeartbeatReply}
use Rattle.kr_bodies.specs.BrokerRegistration.{IsBrokerRegistration, IsBrokerRegistrationReply}
use Rattle.kr_bodies.specs.UnregisterBroker.{IsUnregisterBroker, IsUnregisterBrokerReply}
use Rattle.kr_bodies.specs.IncrementalAlterConfigs.{IsIncrementalAlterConfigs, IsIncrementalAlterConfigsReply}
use Rattle.kr_bodies.specs.AlterPartition.{IsAlterPartition, IsAlterPartitionReply}
use Rattle.kr_bodies.specs.AlterPartitionReassignments.{IsAlterPartitionReassignments, IsAlterPartitionReassignmentsReply}
use Rattle.kr_bodies.specs.ElectLeaders.{IsElectLeaders, IsElectLeadersReply}
use Rattle.kr_bodies.specs.ListPartitionReassignments.{IsListPartitionReassignments, IsListPartitionReassignmentsReply}
use Rattle.kr_bodies.specs.CreatePartitions.{IsCreatePartitions, IsCreatePartitionsReply}
use Rattle.kr_bodies.specs.CreateTopics.{IsCreateTopics, IsCreateTopicsReply}
use Rattle.kr_bodies.specs.DeleteTopics.{IsDeleteTopics, IsDeleteTopicsReply}
use Rattle.kr_bodies.specs.Metadata.{IsMetadata, IsMetadataReply}

-- ---- the requests that are served

-- the number in Kafka's ApiKeys
abbrev pub number_of : ApiKey → ℤ
number_of apis.BrokerRegistration = pos 62
number_of apis.BrokerHeartbeat = pos 63
number_of apis.UnregisterBroker = pos 64
number_of apis.CreateTopics = pos 19
number_of apis.DeleteTopics = pos 20
number_of apis.CreatePartitions = pos 37
number_of apis.AlterPartition = pos 56
number_of apis.ElectLeaders = pos 43
number_of apis.AlterPartitionReassignments = pos 45
number_of apis.ListPartitionReassignments = pos 46
number_of apis.IncrementalAlterConfigs = pos 44
number_of apis.Metadata = pos 3

-- the one version that is served
abbrev pub version_of : ApiKey → ℤ
version_of apis.BrokerRegistration = pos 3
version_of apis.BrokerHeartbeat = pos 0
version_of apis.UnregisterBroker = pos 0
version_of apis.CreateTopics = pos 7
version_of apis.DeleteTopics = pos 6
version_of apis.CreatePartitions = pos 3
version_of apis.AlterPartition = pos 3
version_of apis.ElectLeaders = pos 2
version_of apis.AlterPartitionReassignments = pos 0
version_of apis.ListPartitionReassignments = pos 0
version_of apis.IncrementalAlterConfigs = pos 1
version_of apis.Metadata = pos 12

-- a key and version of the table
pub record IsServed (key version : ℤ) : Type 0 where
  pub api : ApiKey
  pub number : number_of api ≡ key
  pub at_version : version_of api ≡ version

abbrev pub api_of : Request → ApiKey
api_of (requests.BrokerRegistration q) = apis.BrokerRegistration
api_of (requests.BrokerHeartbeat q) = apis.BrokerHeartbeat
api_of (requests.UnregisterBroker q) = apis.UnregisterBroker
api_of (requests.CreateTopics q) = apis.CreateTopics
api_of (requests.DeleteTopics q) = apis.DeleteTopics
api_of (requests.CreatePartitions q) = apis.CreatePartitions
api_of (requests.AlterPartition q) = apis.AlterPartition
api_of (requests.ElectLeaders q) = apis.ElectLeaders
api_of (requests.AlterPartitionReassignments q) = apis.AlterPartitionReassignments
api_of (requests.ListPartitionReassignments q) = apis.ListPartitionReassignments
api_of (requests.IncrementalAlterConfigs q) = apis.IncrementalAlterConfigs
api_of (requests.Metadata q) = apis.Metadata

-- ---- request messages

abbrev pub IsBody : Request → List ℕ → Type 0
IsBody (requests.BrokerRegistration q) = IsBrokerRegistration q
IsBody (requests.BrokerHeartbeat q) = IsBrokerHeartbeat q
IsBody (requests.UnregisterBroker q) = IsUnregisterBroker q
IsBody (requests.CreateTopics q) = IsCreateTopics q
IsBody (requests.DeleteTopics q) = IsDeleteTopics q
IsBody (requests.CreatePartitions q) = IsCreatePartitions q
IsBody (requests.AlterPartition q) = IsAlterPartition q
IsBody (requests.ElectLeaders q) = IsElectLeaders q
IsBody (requests.AlterPartitionReassignments q) = IsAlterPartitionReassignments q
IsBody (requests.ListPartitionReassignments q) = IsListPartitionReassignments q
IsBody (requests.IncrementalAlterConfigs q) = IsIncrementalAlterConfigs q
IsBody (requests.Metadata q) = IsMetadata q

-- Kafka's STRING: a text behind its length in 16 bits
pub record IsSizedText (bytes : List ℕ) : Type 0 where
  pub text : List ℕ
  pub utf8 : IsUtf8 text
  pub spelled : (IsSigned w16 (pos (length text)) ⌢ Exactly text) bytes

-- Kafka's NULLABLE_STRING: the length -1 for null
abbrev pub IsClientId : List ℕ → Type 0
IsClientId bytes = IsSigned w16 (negsuc 0) bytes ⊎ IsSizedText bytes

-- what every message begins with: its key, its version and its correlation id
abbrev pub IsStart : ℤ → ℤ → ℤ → List ℕ → Type 0
IsStart key version correlation = IsSigned w16 key ⌢ IsSigned w16 version ⌢ IsSigned w32 correlation

-- the rest of the header
abbrev pub IsClient : List ℕ → Type 0
IsClient = IsClientId ⌢ NoTags

-- the rest of the header, and the body
abbrev pub IsRest : Request → List ℕ → Type 0
IsRest request = IsClient ⌢ IsBody request

abbrev pub IsCall : Call → List ℕ → Type 0
IsCall call =
    IsStart (number_of (api_of call.request)) (version_of (api_of call.request)) call.correlation ⌢ IsRest call.request

-- some bytes behind the start
abbrev pub BeginsWith : ℤ → ℤ → ℤ → List ℕ → Type 0
BeginsWith key version correlation message = (rest : List ℕ) × Front (IsStart key version correlation) message rest

-- Fewer than 8 bytes are no request at all. Then a key and version that isn't served is told. Of the others a call, to the last
-- byte, is one; a call with bytes left behind it is told from a message at whose front no call stands.
pub data IsAsk : Ask → List ℕ → Type 0 where
  short : (message : List ℕ) → length message < 8 → IsAsk (asks.Bare (pos 0) faults.Wire) message
  unsupported : (key version correlation : ℤ) (message : List ℕ) → BeginsWith key version correlation message
      → (IsServed key version → ⊥) → IsAsk (asks.Bare correlation (faults.Unsupported key version)) message
  call : (c : Call) (message : List ℕ) → IsCall c message → IsAsk (asks.Call c) message
  trailing : (c : Call) (message rest : List ℕ) → Front (IsCall c) message rest → 0 < length rest
      → IsAsk (asks.Bare c.correlation faults.Trailing) message
  unread : (key version correlation : ℤ) (message : List ℕ) → BeginsWith key version correlation message → IsServed key version
      → ((c : Call) (rest : List ℕ) → Front (IsCall c) message rest → ⊥) → IsAsk (asks.Bare correlation faults.Wire) message

-- each message asks one thing: at least one, and no other
abbrev pub MessagesAskOneThing : Type 0
MessagesAskOneThing = (message : List ℕ) → IsBytes message → (ask : Ask) × IsAsk ask message × ((any : Ask) → IsAsk any message → any ≡ ask)

-- ---- reply messages

-- the body, or the error alone where the message was no call
abbrev pub IsReplyBody : Reply → List ℕ → Type 0
IsReplyBody (replies.BrokerRegistration p) = IsBrokerRegistrationReply p
IsReplyBody (replies.BrokerHeartbeat p) = IsBrokerHeartbeatReply p
IsReplyBody (replies.UnregisterBroker p) = IsUnregisterBrokerReply p
IsReplyBody (replies.CreateTopics p) = IsCreateTopicsReply p
IsReplyBody (replies.DeleteTopics p) = IsDeleteTopicsReply p
IsReplyBody (replies.CreatePartitions p) = IsCreatePartitionsReply p
IsReplyBody (replies.AlterPartition p) = IsAlterPartitionReply p
IsReplyBody (replies.ElectLeaders p) = IsElectLeadersReply p
IsReplyBody (replies.AlterPartitionReassignments p) = IsAlterPartitionReassignmentsReply p
IsReplyBody (replies.ListPartitionReassignments p) = IsListPartitionReassignmentsReply p
IsReplyBody (replies.IncrementalAlterConfigs p) = IsIncrementalAlterConfigsReply p
IsReplyBody (replies.Metadata p) = IsMetadataReply p
IsReplyBody (replies.Bare error) = IsSigned w16 error

abbrev pub IsReply : ℤ → Reply → List ℕ → Type 0
IsReply correlation reply = IsSigned w32 correlation ⌢ NoTags ⌢ IsReplyBody reply
