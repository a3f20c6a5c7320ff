-- What is written for replies: Kafka's response header version 1 without tagged fields, and the body by its layout.
use Rattle.std.specs.Prelude.{◌≡◌, ℕ, ℤ, List, [], ◌++◌, Option, Some, None, FitsSigned}
use Rattle.std.specs.Int.{w32}
use Rattle.kr_wire.specs.Laws.{IsWritten}
use Rattle.kr_wire.specs.Schema.{Schema, Int16, written, Fits}
use Rattle.kr_wire.specs.Spelling.{signed, tags}
use Rattle.kr_calls.specs.declared.calls.Reply.{Reply}
use Rattle.kr_calls.specs.declared.calls.Reply.TheVariants as replies
use Rattle.kr_req.specs.declared.api.ApiKey.{ApiKey}
use Rattle.kr_req.specs.declared.api.ApiKey.TheVariants as apis
use Rattle.kr_req.specs.Messages.{IsReply}
use Rattle.kr_bodies.specs.BrokerHeartbeat.{broker_heartbeat_reply}
use Rattle.kr_bodies.specs.BrokerRegistration.{broker_registration_reply}
use Rattle.kr_bodies.specs.UnregisterBroker.{unregister_broker_reply}
use Rattle.kr_bodies.specs.IncrementalAlterConfigs.{incremental_alter_configs_reply}
use Rattle.kr_bodies.specs.AlterPartition.{alter_partition_reply}
use Rattle.kr_bodies.specs.AlterPartitionReassignments.{alter_partition_reassignments_reply}
use Rattle.kr_bodies.specs.ElectLeaders.{elect_leaders_reply}
use Rattle.kr_bodies.specs.ListPartitionReassignments.{list_partition_reassignments_reply}
use Rattle.kr_bodies.specs.CreatePartitions.{create_partitions_reply}
use Rattle.kr_bodies.specs.CreateTopics.{create_topics_reply}
use Rattle.kr_bodies.specs.DeleteTopics.{delete_topics_reply}
use Rattle.kr_bodies.specs.Metadata.{metadata_reply}

-- what this is of the layout of a reply's body, and of the body
abbrev pub of_body {ℓ} : {R : Type ℓ} → ((X : Type 0) → Schema X → X → R) → Reply → R
of_body of (replies.BrokerRegistration p) = of _ broker_registration_reply p
of_body of (replies.BrokerHeartbeat p) = of _ broker_heartbeat_reply p
of_body of (replies.UnregisterBroker p) = of _ unregister_broker_reply p
of_body of (replies.CreateTopics p) = of _ create_topics_reply p
of_body of (replies.DeleteTopics p) = of _ delete_topics_reply p
of_body of (replies.CreatePartitions p) = of _ create_partitions_reply p
of_body of (replies.AlterPartition p) = of _ alter_partition_reply p
of_body of (replies.ElectLeaders p) = of _ elect_leaders_reply p
of_body of (replies.AlterPartitionReassignments p) = of _ alter_partition_reassignments_reply p
of_body of (replies.ListPartitionReassignments p) = of _ list_partition_reassignments_reply p
of_body of (replies.IncrementalAlterConfigs p) = of _ incremental_alter_configs_reply p
of_body of (replies.Metadata p) = of _ metadata_reply p
of_body of (replies.Bare error) = of _ Int16 error

abbrev pub body_bytes : Reply → List ℕ
body_bytes reply = of_body (λ X s x. written s x) reply

abbrev pub BodyFits : Reply → Type 0
BodyFits reply = of_body (λ X s x. Fits s x) reply

abbrev pub reply_bytes : ℤ → Reply → List ℕ
reply_bytes correlation reply = signed w32 correlation ++ (tags [] ++ body_bytes reply)

-- the numbers are in their ranges, the texts are UTF-8, and texts and lists are shorter than 2^31
abbrev pub ReplyFits : ℤ → Reply → Type 0
ReplyFits correlation reply = FitsSigned w32 correlation × BodyFits reply

-- ---- replies to one request

-- the request that a reply is to; none, where the message was no call
abbrev pub answered : Reply → Option ApiKey
answered (replies.BrokerRegistration p) = Some apis.BrokerRegistration
answered (replies.BrokerHeartbeat p) = Some apis.BrokerHeartbeat
answered (replies.UnregisterBroker p) = Some apis.UnregisterBroker
answered (replies.CreateTopics p) = Some apis.CreateTopics
answered (replies.DeleteTopics p) = Some apis.DeleteTopics
answered (replies.CreatePartitions p) = Some apis.CreatePartitions
answered (replies.AlterPartition p) = Some apis.AlterPartition
answered (replies.ElectLeaders p) = Some apis.ElectLeaders
answered (replies.AlterPartitionReassignments p) = Some apis.AlterPartitionReassignments
answered (replies.ListPartitionReassignments p) = Some apis.ListPartitionReassignments
answered (replies.IncrementalAlterConfigs p) = Some apis.IncrementalAlterConfigs
answered (replies.Metadata p) = Some apis.Metadata
answered (replies.Bare error) = None

-- the bytes stand for this correlation id and this reply, which is to that request
abbrev pub IsReplyTo : Option ApiKey → ℤ × Reply → List ℕ → Type 0
IsReplyTo request message bytes = (answered message.1 ≡ request) × IsReply message.0 message.1 bytes

abbrev pub FitsReplyTo : Option ApiKey → ℤ × Reply → Type 0
FitsReplyTo request message = (answered message.1 ≡ request) × ReplyFits message.0 message.1

-- Of the replies to one request, what is written for one stands for it and is written for no other, whatever follows.
abbrev pub RepliesAreWritten : Type 0
RepliesAreWritten = (request : Option ApiKey) → IsWritten (IsReplyTo request) (λ message. reply_bytes message.0 message.1) (FitsReplyTo request)
