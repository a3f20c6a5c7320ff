-- What a rule answers, with records or without: an error of its own, or none.
use Rattle.std.proofs.Common.{◌≡◌, ℤ, ℕ, Bool, true, false, cond, not, ◌||◌, ◌&&◌, ◌==◌, ◌-◌, List, [], ◌∷◌, length, refl}
use Rattle.std.specs.Prelude.{Option, Some, None, Result, MatchResult, pos, negsuc, int_lt, int_le, nat_lt, bytes_eq, unsigned_abs}
use Rattle.std.specs.List.{list_all, list_any}
use Rattle.std.specs.Ordering.{int_cmp, int_eq}
use Rattle.kr_defs.specs.declared.options.Options.{Options}
use Rattle.kr_defs.specs.declared.partition.Partition.{Partition}
use Rattle.kr_defs.specs.declared.partition.PartitionChange.{PartitionChange}
use Rattle.kr_defs.specs.Brokers.{active}
use Rattle.kr_defs.specs.Build.{built}
use Rattle.kr_defs.specs.Heartbeats.{Heartbeats}
use Rattle.kr_defs.specs.Ids.{has}
use Rattle.kr_defs.specs.Image.{Image, topic_name}
use Rattle.kr_defs.specs.Map as entries
use Rattle.kr_defs.specs.Map.{partition_order, text_order}
use Rattle.kr_defs.specs.Merge.{merged}
use Rattle.kr_defs.specs.Partition.{is_moving, target}
use Rattle.kr_defs.specs.Settings.{facts_of, is_broker_name, is_list_key, is_setting_key}
use Rattle.kr_defs.specs.Texts.{is_topic_name, names_agree}
use Rattle.kr_defs.specs.Topics.{count_of, is_named_once}
use Rattle.kr_calls.specs.declared.alter_partition.AlterPartitionResult.{AlterPartitionResult}
use Rattle.kr_calls.specs.declared.alter_partition_reassignments.ReassignablePartitionResponse.{ReassignablePartitionResponse}
use Rattle.kr_calls.specs.declared.broker_heartbeat.BrokerHeartbeat.{BrokerHeartbeat}
use Rattle.kr_calls.specs.declared.broker_heartbeat.BrokerHeartbeatReply.{BrokerHeartbeatReply}
use Rattle.kr_calls.specs.declared.broker_registration.BrokerRegistration.{BrokerRegistration}
use Rattle.kr_calls.specs.declared.broker_registration.BrokerRegistrationReply.{BrokerRegistrationReply}
use Rattle.kr_calls.specs.declared.create_partitions.CreatePartitionsAssignment.{CreatePartitionsAssignment}
use Rattle.kr_calls.specs.declared.create_partitions.CreatePartitionsTopic.{CreatePartitionsTopic}
use Rattle.kr_calls.specs.declared.create_partitions.CreatePartitionsTopicResult.{CreatePartitionsTopicResult}
use Rattle.kr_calls.specs.declared.create_topics.CreatableTopic.{CreatableTopic}
use Rattle.kr_calls.specs.declared.create_topics.CreatableTopicResult.{CreatableTopicResult}
use Rattle.kr_calls.specs.declared.deciding.Draft.{Draft}
use Rattle.kr_calls.specs.declared.delete_topics.DeletableTopicResult.{DeletableTopicResult}
use Rattle.kr_calls.specs.declared.delete_topics.DeleteTopicState.{DeleteTopicState}
use Rattle.kr_calls.specs.declared.elect_leaders.PartitionElectionResult.{PartitionElectionResult}
use Rattle.kr_calls.specs.declared.errors.TheConstants as errors
use Rattle.kr_calls.specs.declared.incremental_alter_configs.ConfigOperation.{ConfigOperation}
use Rattle.kr_calls.specs.declared.incremental_alter_configs.ConfigResource.{ConfigResource}
use Rattle.kr_calls.specs.declared.incremental_alter_configs.ConfigResponse.{ConfigResponse}
use Rattle.kr_calls.specs.declared.unregister_broker.UnregisterBroker.{UnregisterBroker}
use Rattle.kr_calls.specs.declared.unregister_broker.UnregisterBrokerReply.{UnregisterBrokerReply}
use Rattle.kr_calls.specs.AlterPartition as alter_partition
use Rattle.kr_calls.specs.AlterPartitionReassignments as alter_partition_reassignments
use Rattle.kr_calls.specs.BrokerHeartbeat as broker_heartbeat
use Rattle.kr_calls.specs.BrokerRegistration as broker_registration
use Rattle.kr_calls.specs.CreatePartitions as create_partitions
use Rattle.kr_calls.specs.CreateTopics as create_topics
use Rattle.kr_calls.specs.DeleteTopics as delete_topics
use Rattle.kr_calls.specs.ElectLeaders as elect_leaders
use Rattle.kr_calls.specs.IncrementalAlterConfigs as incremental_alter_configs
use Rattle.kr_calls.specs.UnregisterBroker as unregister_broker
use Rattle.law_safety.proofs.Refusals.{by_found, by_if, by_refuse, by_then}
use Rattle.law_replies.specs.LimitReplies.{is_own}

abbrev pub IsOwn : ℤ → Type 0
IsOwn error = is_own error ≡ true

-- the answer of a draft
abbrev pub HasOwn : {A : Type 0} → (A → ℤ) → Draft A → Type 0
HasOwn error_of draft = IsOwn (error_of draft.answer)

abbrev pub AnswersOwn : {A : Type 0} → (A → ℤ) → Result (Draft A) ℤ → Type 0
AnswersOwn error_of r = MatchResult r (HasOwn error_of) IsOwn

-- an error on the way
abbrev ErrsOwn : {X : Type 0} → Result X ℤ → Type 0
ErrsOwn r = MatchResult r (λ _. Unit {0}) IsOwn

-- ---- of rules

module _ (image : Image) (place : ℤ) where
  laid_out : (options : Options) (entry : CreatableTopic) → ErrsOwn (create_topics.layout options image place entry)
  laid_out options entry =
      let P : create_topics.Layout → Type 0 = λ _. Unit {0} in
      let partitions = create_topics.or_default entry.partitions options.partitions in
      let factor = create_topics.or_default entry.factor options.factor in
      by_if P IsOwn (length entry.assignments == 0) (create_topics.spread image place partitions factor) (create_topics.assigned image entry)
      (λ _. by_refuse P IsOwn errors.INVALID_PARTITIONS (int_lt partitions (pos 1)) _ (λ _. refl) (λ _.
      by_refuse P IsOwn errors.INVALID_REPLICATION_FACTOR (not (create_topics.is_factor image factor)) _ (λ _. refl) (λ _. tt)))
      (λ _. by_refuse P IsOwn errors.INVALID_REQUEST (not (int_eq entry.partitions (negsuc 0)) || not (int_eq entry.factor (negsuc 0))) _ (λ _. refl) (λ _.
      by_refuse P IsOwn errors.INVALID_REPLICA_ASSIGNMENT (not (create_topics.are_whole entry.assignments) || not (create_topics.are_assignable image entry.assignments)) _ (λ _. refl) (λ _. tt)))

  more_laid_out : (first count size : ℕ) (assignments : Option (List CreatePartitionsAssignment)) → ErrsOwn (create_partitions.new_replicas image place first count size assignments)
  more_laid_out first count size (Some assignments) =
      by_refuse (λ _. Unit {0}) IsOwn errors.INVALID_REPLICA_ASSIGNMENT (not (create_partitions.are_assignable image count size assignments)) _ (λ _. refl) (λ _. tt)
  more_laid_out first count size None =
      by_refuse (λ _. Unit {0}) IsOwn errors.INVALID_REPLICATION_FACTOR (nat_lt (length (active image)) size) _ (λ _. refl) (λ _. tt)

  target_own : (p : Partition) (target : Option (List ℤ)) → ErrsOwn (alter_partition_reassignments.wanted image p target)
  target_own p None = by_refuse (λ _. Unit {0}) IsOwn errors.NO_REASSIGNMENT_IN_PROGRESS (not (is_moving p)) _ (λ _. refl) (λ _. tt)
  target_own p (Some ids) = by_refuse (λ _. Unit {0}) IsOwn errors.INVALID_REPLICA_ASSIGNMENT (not (alter_partition_reassignments.is_target image ids)) _ (λ _. refl) (λ _. tt)

  operation_own : (entry : ConfigResource) (values : incremental_alter_configs.Values) (o : ConfigOperation) → ErrsOwn (incremental_alter_configs.after_operation image entry values o)
  operation_own entry values o =
      let P : incremental_alter_configs.Values → Type 0 = λ _. Unit {0} in
      by_refuse P IsOwn errors.INVALID_REQUEST (incremental_alter_configs.is_bad_operation o) _ (λ _. refl) (λ _.
      by_refuse P IsOwn errors.INVALID_CONFIG (not (is_setting_key o.name)) _ (λ _. refl) (λ _.
      by_refuse P IsOwn errors.INVALID_CONFIG (incremental_alter_configs.is_of_parts o && not (is_list_key o.name)) _ (λ _. refl) (λ _.
      by_refuse P IsOwn errors.INVALID_CONFIG (not (incremental_alter_configs.may_result o.name (incremental_alter_configs.operated o (incremental_alter_configs.value_now image entry values o.name)))) _ (λ _. refl) (λ _. tt))))

  operations_own : (entry : ConfigResource) (values : incremental_alter_configs.Values) (operations : List ConfigOperation) → ErrsOwn (incremental_alter_configs.after_operations image entry values operations)
  operations_own entry values [] = tt
  operations_own entry values (o ∷ operations) =
      by_then (λ _. Unit {0}) IsOwn (λ _. Unit {0}) (incremental_alter_configs.after_operation image entry values o) (λ after. incremental_alter_configs.after_operations image entry after operations) (operation_own entry values o) (λ after _. operations_own entry after operations)

  pub registers : (options : Options) (time : ℤ) (heard : Heartbeats) (q : BrokerRegistration) → AnswersOwn (λ (answer : BrokerRegistrationReply). answer.error) (broker_registration.rule options time heard image place q)
  registers options time heard q =
      let P = HasOwn (λ (answer : BrokerRegistrationReply). answer.error) in
      by_refuse P IsOwn errors.INCONSISTENT_CLUSTER_ID (not (bytes_eq q.cluster options.cluster)) _ (λ _. refl) (λ _.
      by_refuse P IsOwn errors.INVALID_REQUEST (int_lt q.broker (pos 0) || q.migrating || length q.listeners == 0) _ (λ _. refl) (λ _.
      by_refuse P IsOwn errors.DUPLICATE_BROKER_REGISTRATION (broker_registration.is_taken options time heard image q) _ (λ _. refl) (λ _. refl)))

  pub beats : (options : Options) (heard : Heartbeats) (q : BrokerHeartbeat) → AnswersOwn (λ (answer : BrokerHeartbeatReply). answer.error) (broker_heartbeat.rule options heard image place q)
  beats options heard q =
      let P = HasOwn (λ (answer : BrokerHeartbeatReply). answer.error) in
      by_found P IsOwn errors.STALE_BROKER_EPOCH (entries.get int_cmp image.brokers q.broker) _ (λ _. refl) (λ state there.
      by_refuse P IsOwn errors.STALE_BROKER_EPOCH (not (int_eq q.epoch state.epoch)) _ (λ _. refl) (λ _. refl))

  pub unregisters : (options : Options) (q : UnregisterBroker) → AnswersOwn (λ (answer : UnregisterBrokerReply). answer.error) (unregister_broker.rule options image place q)
  unregisters options q =
      by_found (HasOwn (λ (answer : UnregisterBrokerReply). answer.error)) IsOwn errors.BROKER_ID_NOT_REGISTERED (entries.get int_cmp image.brokers q.broker) _ (λ _. refl) (λ old there. refl)

  pub creates : (options : Options) (validate_only : Bool) (entry : CreatableTopic) → AnswersOwn (λ (answer : CreatableTopicResult). answer.error) (create_topics.rule options validate_only image place entry)
  creates options validate_only entry =
      let P = HasOwn (λ (answer : CreatableTopicResult). answer.error) in
      by_refuse P IsOwn errors.INVALID_TOPIC_EXCEPTION (not (is_topic_name entry.name)) _ (λ _. refl) (λ _.
      by_refuse P IsOwn errors.TOPIC_ALREADY_EXISTS (entries.contains text_order image.topics entry.name) _ (λ _. refl) (λ _.
      by_refuse P IsOwn errors.INVALID_TOPIC_EXCEPTION (list_any (λ topic. names_agree topic.0 entry.name) image.topics) _ (λ _. refl) (λ _.
      by_then P IsOwn (λ _. Unit {0}) (create_topics.layout options image place entry) (create_topics.of_layout options validate_only image place entry) (laid_out options entry) (λ layout _.
      by_refuse P IsOwn errors.INVALID_CONFIG (list_any create_topics.is_bad_setting entry.configs) _ (λ _. refl) (λ _. refl)))))

  deletes_named : (name : Option (List ℕ)) (id : ℕ) → AnswersOwn (λ (answer : DeletableTopicResult). answer.error) (delete_topics.by_name_or_id image name id)
  deletes_named (Some name) id = by_found (HasOwn (λ (answer : DeletableTopicResult). answer.error)) IsOwn errors.UNKNOWN_TOPIC_OR_PARTITION (entries.get text_order image.topics name) _ (λ _. refl) (λ there is. refl)
  deletes_named None id = by_found (HasOwn (λ (answer : DeletableTopicResult). answer.error)) IsOwn errors.UNKNOWN_TOPIC_ID (topic_name image.topics id) _ (λ _. refl) (λ name is. refl)

  pub deletes : (entry : DeleteTopicState) → AnswersOwn (λ (answer : DeletableTopicResult). answer.error) (delete_topics.rule image place entry)
  deletes entry =
      by_refuse (HasOwn (λ (answer : DeletableTopicResult). answer.error)) IsOwn errors.INVALID_REQUEST (not (is_named_once entry.name entry.topic)) _ (λ _. refl) (λ _. deletes_named entry.name entry.topic)

  pub grows : (entry : CreatePartitionsTopic) → AnswersOwn (λ (answer : CreatePartitionsTopicResult). answer.error) (create_partitions.rule image place entry)
  grows entry =
      let P = HasOwn (λ (answer : CreatePartitionsTopicResult). answer.error) in
      by_found P IsOwn errors.UNKNOWN_TOPIC_OR_PARTITION (entries.get text_order image.topics entry.name) _ (λ _. refl) (λ id is. let first = count_of image id in
      by_refuse P IsOwn errors.INVALID_PARTITIONS (int_le entry.count (pos first)) _ (λ _. refl) (λ _.
      by_found P IsOwn errors.INVALID_REPLICA_ASSIGNMENT (entries.get partition_order image.partitions (id, pos 0)) _ (λ _. refl) (λ p there.
      by_then P IsOwn (λ _. Unit {0}) (create_partitions.new_replicas image place first (unsigned_abs entry.count - first) (length (target p)) entry.assignments) _ (more_laid_out first (unsigned_abs entry.count - first) (length (target p)) entry.assignments) (λ lists _. refl))))

  either_own : (test : Bool) (x y : AlterPartitionResult) → IsOwn x.error → IsOwn y.error → IsOwn (cond test x y).error
  either_own true x y first then = first
  either_own false x y first then = then

  values_own : (broker : ℤ) (entry : alter_partition.Entry) (p : Partition) → IsOwn (alter_partition.partition_result broker entry p).error
  values_own broker entry p = either_own (int_eq p.leader broker) _ (alter_partition.refused errors.NEW_LEADER_ELECTED entry) refl refl

  drafted_own : (broker : ℤ) (entry : alter_partition.Entry) (p : Partition) (o : Option PartitionChange) → HasOwn (λ (answer : AlterPartitionResult). answer.error) (alter_partition.drafted broker entry p o)
  drafted_own broker entry p None = values_own broker entry p
  drafted_own broker entry p (Some change) = values_own broker entry (merged p change)

  pub reports : (options : Options) (broker : ℤ) (entry : alter_partition.Entry) → AnswersOwn (λ (answer : AlterPartitionResult). answer.error) (alter_partition.rule options broker image place entry)
  unfolding alter_partition.of_partition alter_partition.accepted
  reports options broker entry =
      let P = HasOwn (λ (answer : AlterPartitionResult). answer.error) in
      by_found P IsOwn errors.UNKNOWN_TOPIC_ID (topic_name image.topics entry.0) _ (λ _. refl) (λ name named.
      by_found P IsOwn errors.UNKNOWN_TOPIC_OR_PARTITION (entries.get partition_order image.partitions (entry.0, entry.1.index)) _ (λ _. refl) (λ p there.
      by_refuse P IsOwn errors.FENCED_LEADER_EPOCH (int_lt entry.1.leader_epoch p.leader_epoch) _ (λ _. refl) (λ _.
      by_refuse P IsOwn errors.UNKNOWN_LEADER_EPOCH (int_lt p.leader_epoch entry.1.leader_epoch) _ (λ _. refl) (λ _.
      by_refuse P IsOwn errors.INVALID_UPDATE_VERSION (not (int_eq entry.1.partition_epoch p.partition_epoch)) _ (λ _. refl) (λ _.
      by_refuse P IsOwn errors.INVALID_REQUEST (alter_partition.is_bad broker p entry.1) _ (λ _. refl) (λ _.
      by_refuse P IsOwn errors.INELIGIBLE_REPLICA (not (list_all (alter_partition.is_ready image) entry.1.in_sync)) _ (λ _. refl) (λ _.
      drafted_own broker entry p (built p (alter_partition.wanted p entry.1) (facts_of options image name)))))))))

  pub elects : (options : Options) (kind : ℤ) (entry : elect_leaders.Entry) → AnswersOwn (λ (answer : PartitionElectionResult). answer.error) (elect_leaders.rule options kind image place entry)
  elects options kind entry =
      let P = HasOwn (λ (answer : PartitionElectionResult). answer.error) in
      by_found P IsOwn errors.UNKNOWN_TOPIC_OR_PARTITION (entries.get text_order image.topics entry.0) _ (λ _. refl) (λ id is.
      by_found P IsOwn errors.UNKNOWN_TOPIC_OR_PARTITION (entries.get partition_order image.partitions (id, entry.1)) _ (λ _. refl) (λ p there.
      by_if P IsOwn (elect_leaders.is_preferred_kind kind) (elect_leaders.prefers options image entry id p) (elect_leaders.elects_any options image entry id p)
      (λ _. by_refuse P IsOwn errors.ELECTION_NOT_NEEDED (int_eq p.leader (elect_leaders.first_replica p)) _ (λ _. refl) (λ _.
      by_refuse P IsOwn errors.PREFERRED_LEADER_NOT_AVAILABLE (not (has p.in_sync (elect_leaders.first_replica p) && has (active image) (elect_leaders.first_replica p))) _ (λ _. refl) (λ _. refl)))
      (λ _. by_refuse P IsOwn errors.ELECTION_NOT_NEEDED (not (int_eq p.leader (negsuc 0))) _ (λ _. refl) (λ _.
      by_refuse P IsOwn errors.ELIGIBLE_LEADERS_NOT_AVAILABLE (elect_leaders.finds_nobody options image entry p) _ (λ _. refl) (λ _. refl)))))

  pub reassigns : (options : Options) (entry : alter_partition_reassignments.Entry) → AnswersOwn (λ (answer : ReassignablePartitionResponse). answer.error) (alter_partition_reassignments.rule options image place entry)
  reassigns options entry =
      let P = HasOwn (λ (answer : ReassignablePartitionResponse). answer.error) in
      by_found P IsOwn errors.UNKNOWN_TOPIC_OR_PARTITION (entries.get text_order image.topics entry.0) _ (λ _. refl) (λ id is.
      by_found P IsOwn errors.UNKNOWN_TOPIC_OR_PARTITION (entries.get partition_order image.partitions (id, entry.1.index)) _ (λ _. refl) (λ p there.
      by_then P IsOwn (λ _. Unit {0}) (alter_partition_reassignments.wanted image p entry.1.replicas) _ (target_own p entry.1.replicas) (λ want _.
      by_refuse P IsOwn errors.INVALID_REPLICA_ASSIGNMENT (alter_partition_reassignments.loses_all image entry.0 p want) _ (λ _. refl) (λ _. refl))))

  pub configures : (options : Options) (entry : ConfigResource) → AnswersOwn (λ (answer : ConfigResponse). answer.error) (incremental_alter_configs.rule options image place entry)
  configures options entry =
      let P = HasOwn (λ (answer : ConfigResponse). answer.error) in
      by_refuse P IsOwn errors.INVALID_REQUEST (not (incremental_alter_configs.is_topic_kind entry || incremental_alter_configs.is_broker_kind entry)) _ (λ _. refl) (λ _.
      by_refuse P IsOwn errors.UNKNOWN_TOPIC_OR_PARTITION (incremental_alter_configs.is_topic_kind entry && not (entries.contains text_order image.topics entry.name)) _ (λ _. refl) (λ _.
      by_refuse P IsOwn errors.INVALID_REQUEST (incremental_alter_configs.is_broker_kind entry && not (is_broker_name entry.name)) _ (λ _. refl) (λ _.
      by_then P IsOwn (λ _. Unit {0}) (incremental_alter_configs.after_operations image entry [] entry.configs) _ (operations_own entry [] entry.configs) (λ values _. refl))))
