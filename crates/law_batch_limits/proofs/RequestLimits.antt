-- The records of every request pass no limit of requests.
use Rattle.std.proofs.Common.{◌≡◌, ℤ, Bool, true, false, cond, List, [], ◌∷◌, ◌++◌, refl, ap, subst, not}
use Rattle.std.specs.Prelude.{Option, Some, None, Result, Ok, Err, unwrap_or}
use Rattle.std.specs.List.{list_all}
use Rattle.kr_defs.specs.declared.ill.Ill.{Ill}
use Rattle.kr_defs.specs.declared.options.Options.{Options}
use Rattle.kr_defs.specs.declared.record.Record.{Record}
use Rattle.kr_defs.specs.Heartbeats.{Heartbeats}
use Rattle.kr_defs.specs.Image.{Image}
use Rattle.kr_defs.proofs.Tests.{both}
use Rattle.kr_calls.specs.declared.calls.Request.{Request}
use Rattle.kr_calls.specs.declared.calls.Request.TheVariants as requests
use Rattle.kr_calls.specs.declared.deciding.Draft.{Draft}
use Rattle.kr_calls.specs.Deciding.{Work, apply_records, has_few_targets, is_request, is_within_limits, nothing_decided, work_with, taken, settled, done, one, after_all, after_groups, unless_validating}
use Rattle.kr_calls.specs.Decide.{work_of}
use Rattle.kr_calls.specs.Refuse.{refused_create_topics, refused_delete_topics, refused_create_partitions, refused_incremental_alter_configs}
use Rattle.kr_calls.specs.AlterPartition as alter_partition
use Rattle.kr_calls.specs.AlterPartitionReassignments as alter_partition_reassignments
use Rattle.kr_calls.specs.BrokerHeartbeat as broker_heartbeat
use Rattle.kr_calls.specs.BrokerRegistration as broker_registration
use Rattle.kr_calls.specs.CreatePartitions as create_partitions
use Rattle.kr_calls.specs.CreateTopics as create_topics
use Rattle.kr_calls.specs.DeleteTopics as delete_topics
use Rattle.kr_calls.specs.ElectLeaders as elect_leaders
use Rattle.kr_calls.specs.IncrementalAlterConfigs as incremental_alter_configs
use Rattle.kr_calls.specs.UnregisterBroker as unregister_broker

abbrev IsBounded : Work → Type 0
IsBounded w = is_request w.records ≡ true

added_bounded : (w : Work) (records : List Record) (b : Bool) (r : Result Image Ill) (after : Work) → is_within_limits w.records records ≡ b → cond b (work_with w records r) None ≡ Some after → IsBounded after
added_bounded w records true (Ok image) after within is =
    subst IsBounded (ap (λ o. unwrap_or o after) is) (both (list_all has_few_targets records) (is_request (w.records ++ records)) within).1
added_bounded w records true (Err cause) after within is = absurd cc
added_bounded w records false r after within is = absurd cc

taken_bounded : (w : Work) (records : List Record) (after : Work) → taken w records ≡ Some after → IsBounded after
unfolding taken
taken_bounded w records after is = added_bounded w records (is_within_limits w.records records) (apply_records w.image records) after refl is

module _ {E A : Type 0} (refused : ℤ → E → A) where
  settled_bounded : (w : Work) (entry : E) (answer : A) (o : Option Work) → ((after : Work) → o ≡ Some after → IsBounded after) → IsBounded w → IsBounded (settled refused w entry answer o).0
  settled_bounded w entry answer None bounded so_far = so_far
  settled_bounded w entry answer (Some after) bounded so_far = bounded after refl

  done_bounded : (w : Work) (entry : E) (r : Result (Draft A) ℤ) → IsBounded w → IsBounded (done refused w entry r).0
  unfolding done
  done_bounded w entry (Err error) so_far = so_far
  done_bounded w entry (Ok draft) so_far = settled_bounded w entry draft.answer (taken w draft.records) (λ after is. taken_bounded w draft.records after is) so_far

  module _ (rule : Image → ℤ → E → Result (Draft A) ℤ) where
    one_bounded : (w : Work) (entry : E) → IsBounded w → IsBounded (one refused rule w entry).0
    one_bounded w entry so_far = done_bounded w entry (rule w.image w.place entry) so_far

    all_bounded : (w : Work) (entries : List E) → IsBounded w → IsBounded (after_all refused rule w entries)
    all_bounded w [] so_far = so_far
    all_bounded w (entry ∷ entries) so_far = all_bounded (one refused rule w entry).0 entries (one_bounded w entry so_far)

    groups_bounded : {G B : Type 0} (entries_of : G → List E) (answer_of : G → List A → B) (w : Work) (groups : List G) → IsBounded w → IsBounded (after_groups refused rule entries_of answer_of w groups)
    groups_bounded entries_of answer_of w [] so_far = so_far
    groups_bounded entries_of answer_of w (group ∷ groups) so_far =
        groups_bounded entries_of answer_of (after_all refused rule w (entries_of group)) groups (all_bounded w (entries_of group) so_far)

validated_bounded : (validate_only : Bool) (before after : Work) → IsBounded before → IsBounded after → IsBounded (unless_validating validate_only before after)
validated_bounded true before after first then = first
validated_bounded false before after first then = then

chosen_bounded : {X : Type 0} (test : Bool) (x y : Work × X) → IsBounded x.0 → IsBounded y.0 → IsBounded (cond test x y).0
chosen_bounded true x y first then = first
chosen_bounded false x y first then = then

-- every request, by its rule
pub requests_bounded : (options : Options) (time : ℤ) (heartbeats : Heartbeats) (image : Image) (place : ℤ) (request : Request) → is_request (work_of options time heartbeats image place request).0.records ≡ true
unfolding work_of broker_registration.decided broker_heartbeat.decided unregister_broker.decided create_topics.decided delete_topics.decided create_partitions.decided alter_partition.decided elect_leaders.decided alter_partition_reassignments.decided incremental_alter_configs.decided
requests_bounded options time heartbeats image place (requests.BrokerRegistration q) = one_bounded broker_registration.refused (broker_registration.rule options time heartbeats) (nothing_decided place image) q refl
requests_bounded options time heartbeats image place (requests.BrokerHeartbeat q) = one_bounded broker_heartbeat.refused (broker_heartbeat.rule options heartbeats) (nothing_decided place image) q refl
requests_bounded options time heartbeats image place (requests.UnregisterBroker q) = one_bounded unregister_broker.refused (unregister_broker.rule options) (nothing_decided place image) q refl
requests_bounded options time heartbeats image place (requests.CreateTopics q) =
    validated_bounded q.validate_only (nothing_decided place image) _ refl (all_bounded refused_create_topics (create_topics.rule options q.validate_only) (nothing_decided place image) q.topics refl)
requests_bounded options time heartbeats image place (requests.DeleteTopics q) = all_bounded refused_delete_topics delete_topics.rule (nothing_decided place image) q.topics refl
requests_bounded options time heartbeats image place (requests.CreatePartitions q) =
    validated_bounded q.validate_only (nothing_decided place image) _ refl (all_bounded refused_create_partitions create_partitions.rule (nothing_decided place image) q.topics refl)
requests_bounded options time heartbeats image place (requests.AlterPartition q) =
    chosen_bounded (alter_partition.is_stale image q) _ _ refl (groups_bounded alter_partition.refused (alter_partition.rule options q.broker) alter_partition.entries_of alter_partition.answer_of (nothing_decided place image) q.topics refl)
requests_bounded options time heartbeats image place (requests.ElectLeaders q) =
    chosen_bounded (not (elect_leaders.is_kind q.kind)) _ _ refl (groups_bounded elect_leaders.answer (elect_leaders.rule options q.kind) elect_leaders.entries_of elect_leaders.answer_of (nothing_decided place image) (elect_leaders.groups_of image q.topics) refl)
requests_bounded options time heartbeats image place (requests.AlterPartitionReassignments q) =
    groups_bounded alter_partition_reassignments.answer (alter_partition_reassignments.rule options) alter_partition_reassignments.entries_of alter_partition_reassignments.answer_of (nothing_decided place image) q.topics refl
requests_bounded options time heartbeats image place (requests.IncrementalAlterConfigs q) =
    validated_bounded q.validate_only (nothing_decided place image) _ refl (all_bounded refused_incremental_alter_configs (incremental_alter_configs.rule options) (nothing_decided place image) q.resources refl)
requests_bounded options time heartbeats image place (requests.ListPartitionReassignments q) = refl
requests_bounded options time heartbeats image place (requests.Metadata q) = refl
