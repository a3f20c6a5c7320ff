-- Which entries of a write's reply have Kafka's POLICY_VIOLATION, and that none has NOT_CONTROLLER (this project's own).
use Rattle.std.specs.Prelude.{◌≡◌, ◌⊎◌, ◌↔◌, ◌||◌, ℕ, ℤ, pos, Bool, false, not, List, [], ◌∷◌, Option, Result, Ok, IsTrue, MatchResult}
use Rattle.std.specs.Ordering.{int_eq}
use Rattle.kr_defs.specs.declared.basis.Basis.{Basis}
use Rattle.kr_defs.specs.declared.options.Options.{Options}
use Rattle.kr_defs.specs.declared.record.Record.{Record}
use Rattle.kr_defs.specs.Apply.{apply_record}
use Rattle.kr_defs.specs.Heartbeats.{heard}
use Rattle.kr_defs.specs.Image.{Image, IsValid}
use Rattle.kr_calls.specs.declared.alter_partition.AlterPartitionResult.{AlterPartitionResult}
use Rattle.kr_calls.specs.declared.alter_partition.AlterPartitionTopicResult.{AlterPartitionTopicResult}
use Rattle.kr_calls.specs.declared.alter_partition_reassignments.ReassignablePartitionResponse.{ReassignablePartitionResponse}
use Rattle.kr_calls.specs.declared.alter_partition_reassignments.ReassignableTopicResponse.{ReassignableTopicResponse}
use Rattle.kr_calls.specs.declared.broker_heartbeat.BrokerHeartbeatReply.{BrokerHeartbeatReply}
use Rattle.kr_calls.specs.declared.broker_registration.BrokerRegistrationReply.{BrokerRegistrationReply}
use Rattle.kr_calls.specs.declared.calls.Reply.{Reply}
use Rattle.kr_calls.specs.declared.calls.Reply.TheVariants as replies
use Rattle.kr_calls.specs.declared.calls.Request.{Request}
use Rattle.kr_calls.specs.declared.calls.Request.TheVariants as requests
use Rattle.kr_calls.specs.declared.create_partitions.CreatePartitionsTopicResult.{CreatePartitionsTopicResult}
use Rattle.kr_calls.specs.declared.create_topics.CreatableTopicResult.{CreatableTopicResult}
use Rattle.kr_calls.specs.declared.deciding.Draft.{Draft}
use Rattle.kr_calls.specs.declared.delete_topics.DeletableTopicResult.{DeletableTopicResult}
use Rattle.kr_calls.specs.declared.elect_leaders.ElectLeadersTopic.{ElectLeadersTopic}
use Rattle.kr_calls.specs.declared.elect_leaders.PartitionElectionResult.{PartitionElectionResult}
use Rattle.kr_calls.specs.declared.elect_leaders.ReplicaElectionResult.{ReplicaElectionResult}
use Rattle.kr_calls.specs.declared.errors.TheConstants.{NOT_CONTROLLER, POLICY_VIOLATION}
use Rattle.kr_calls.specs.declared.incremental_alter_configs.ConfigResponse.{ConfigResponse}
use Rattle.kr_calls.specs.declared.unregister_broker.UnregisterBrokerReply.{UnregisterBrokerReply}
use Rattle.kr_calls.specs.AlterPartition as alter_partition
use Rattle.kr_calls.specs.AlterPartitionReassignments as alter_partition_reassignments
use Rattle.kr_calls.specs.BrokerHeartbeat as broker_heartbeat
use Rattle.kr_calls.specs.BrokerRegistration as broker_registration
use Rattle.kr_calls.specs.CreatePartitions as create_partitions
use Rattle.kr_calls.specs.CreateTopics as create_topics
use Rattle.kr_calls.specs.Decide.{decide}
use Rattle.kr_calls.specs.Deciding.{Work, after_all, is_within_limits, nothing_decided, one}
use Rattle.kr_calls.specs.DeleteTopics as delete_topics
use Rattle.kr_calls.specs.ElectLeaders as elect_leaders
use Rattle.kr_calls.specs.IncrementalAlterConfigs as incremental_alter_configs
use Rattle.kr_calls.specs.Refuse.{refused_create_partitions, refused_create_topics, refused_delete_topics, refused_incremental_alter_configs}
use Rattle.kr_calls.specs.UnregisterBroker as unregister_broker
use Rattle.law_safety.specs.RefusalLaws.{is_past_limit}

-- neither Kafka's POLICY_VIOLATION, which tells of a passed limit, nor NOT_CONTROLLER, which tells of a node that doesn't lead
abbrev pub is_own : ℤ → Bool
is_own error = not (int_eq error POLICY_VIOLATION || int_eq error NOT_CONTROLLER)

-- one of the records has no meaning, and the first that has none passes a limit of the image there
abbrev pub StopsAtLimit : ℤ → Image → List Record → Type 0
StopsAtLimit place image [] = ⊥
StopsAtLimit place image (r ∷ records) =
    MatchResult (apply_record image r) (λ after. StopsAtLimit place after records) (λ cause. IsTrue (is_past_limit place image r cause))

-- the records pass a limit: one of requests, behind the records that the request has so far, or one of the image
abbrev pub PassesLimit : Work → List Record → Type 0
PassesLimit work records = (is_within_limits work.records records ≡ false) ⊎ StopsAtLimit work.place work.image records

module _ {E A : Type 0} (error_of : A → ℤ) (refused : ℤ → E → A) (rule : Image → ℤ → E → Result (Draft A) ℤ) where
  -- the rule gives records of the entry, and they pass a limit
  abbrev pub HasLimit : Work → E → Type 0
  HasLimit work entry = (draft : Draft A) × (rule work.image work.place entry ≡ Ok draft) × PassesLimit work draft.records

  -- how an entry is answered that is decided behind this work
  pub record TellsLimit (work : Work) (entry : E) (answer : A) : Type 0 where
    pub policy : (error_of answer ≡ POLICY_VIOLATION) ↔ HasLimit work entry
    pub leads : int_eq (error_of answer) NOT_CONTROLLER ≡ false

  -- each one, in order, as far as there are answers
  abbrev pub TellLimits : Work → List E → List A → Type 0
  TellLimits work entries [] = Unit {0}
  TellLimits work [] (answer ∷ answers) = ⊥
  TellLimits work (entry ∷ entries) (answer ∷ answers) =
      TellsLimit work entry answer × TellLimits (one refused rule work entry).0 entries answers

  -- the same of groups of them
  abbrev pub GroupsTellLimits : {G B : Type 0} → (G → List E) → (B → List A) → Work → List G → List B → Type 0
  GroupsTellLimits entries_of parts_of work groups [] = Unit {0}
  GroupsTellLimits entries_of parts_of work [] (answer ∷ answers) = ⊥
  GroupsTellLimits entries_of parts_of work (group ∷ groups) (answer ∷ answers) =
      TellLimits work (entries_of group) (parts_of answer)
      × GroupsTellLimits entries_of parts_of (after_all refused rule work (entries_of group)) groups answers

-- what elections show of their answers: all, those that tell something, or none
abbrev pub AreElectionsShown : Option (List ElectLeadersTopic) → List ReplicaElectionResult → List ReplicaElectionResult → Type 0
AreElectionsShown topics given results = (results ≡ elect_leaders.shown topics given) ⊎ (results ≡ [])

-- how the reply answers the request's entries, or the whole of it
abbrev pub ReplyTellsLimits : Options → Basis → Image → ℤ → Request → Reply → Type 0
ReplyTellsLimits options basis image place (requests.BrokerRegistration q) (replies.BrokerRegistration p) =
    TellsLimit (λ (answer : BrokerRegistrationReply). answer.error) broker_registration.refused (broker_registration.rule options basis.time (heard basis)) (nothing_decided place image) q p
ReplyTellsLimits options basis image place (requests.BrokerHeartbeat q) (replies.BrokerHeartbeat p) =
    TellsLimit (λ (answer : BrokerHeartbeatReply). answer.error) broker_heartbeat.refused (broker_heartbeat.rule options (heard basis)) (nothing_decided place image) q p
ReplyTellsLimits options basis image place (requests.UnregisterBroker q) (replies.UnregisterBroker p) =
    TellsLimit (λ (answer : UnregisterBrokerReply). answer.error) unregister_broker.refused (unregister_broker.rule options) (nothing_decided place image) q p
ReplyTellsLimits options basis image place (requests.CreateTopics q) (replies.CreateTopics p) =
    TellLimits (λ (answer : CreatableTopicResult). answer.error) refused_create_topics (create_topics.rule options q.validate_only) (nothing_decided place image) q.topics p.topics
ReplyTellsLimits options basis image place (requests.DeleteTopics q) (replies.DeleteTopics p) =
    TellLimits (λ (answer : DeletableTopicResult). answer.error) refused_delete_topics delete_topics.rule (nothing_decided place image) q.topics p.responses
ReplyTellsLimits options basis image place (requests.CreatePartitions q) (replies.CreatePartitions p) =
    TellLimits (λ (answer : CreatePartitionsTopicResult). answer.error) refused_create_partitions create_partitions.rule (nothing_decided place image) q.topics p.results
ReplyTellsLimits options basis image place (requests.AlterPartition q) (replies.AlterPartition p) =
    IsTrue (is_own p.error)
    × GroupsTellLimits (λ (answer : AlterPartitionResult). answer.error) alter_partition.refused (alter_partition.rule options q.broker) alter_partition.entries_of (λ (t : AlterPartitionTopicResult). t.partitions) (nothing_decided place image) q.topics p.topics
ReplyTellsLimits options basis image place (requests.ElectLeaders q) (replies.ElectLeaders p) =
    IsTrue (is_own p.error) × (given : List ReplicaElectionResult)
    × AreElectionsShown q.topics given p.results
    × GroupsTellLimits (λ (answer : PartitionElectionResult). answer.error) elect_leaders.answer (elect_leaders.rule options q.kind) elect_leaders.entries_of (λ (t : ReplicaElectionResult). t.partitions) (nothing_decided place image) (elect_leaders.groups_of image q.topics) given
ReplyTellsLimits options basis image place (requests.AlterPartitionReassignments q) (replies.AlterPartitionReassignments p) =
    IsTrue (is_own p.error)
    × GroupsTellLimits (λ (answer : ReassignablePartitionResponse). answer.error) alter_partition_reassignments.answer (alter_partition_reassignments.rule options) alter_partition_reassignments.entries_of (λ (t : ReassignableTopicResponse). t.partitions) (nothing_decided place image) q.topics p.responses
ReplyTellsLimits options basis image place (requests.IncrementalAlterConfigs q) (replies.IncrementalAlterConfigs p) =
    TellLimits (λ (answer : ConfigResponse). answer.error) refused_incremental_alter_configs (incremental_alter_configs.rule options) (nothing_decided place image) q.resources p.responses
ReplyTellsLimits options basis image place (requests.ListPartitionReassignments q) reply = Unit {0}
ReplyTellsLimits options basis image place (requests.Metadata q) reply = Unit {0}
ReplyTellsLimits options basis image place request reply = ⊥

-- So every write is answered that is decided on a valid image, at a place not below 0.
abbrev pub RepliesTellLimits : Type 0
RepliesTellLimits =
    (options : Options) (basis : Basis) (image : Image) (place : ℕ) (request : Request) → IsValid image →
    ReplyTellsLimits options basis image (pos place) request (decide options image basis (pos place) request).reply
