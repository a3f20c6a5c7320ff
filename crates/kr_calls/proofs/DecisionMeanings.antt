-- What is decided has a meaning: each record at its place.
use Rattle.std.proofs.Common.{◌≡◌, ◌∙◌, ℤ, Bool, true, false, cond, List, [], ◌∷◌, ◌++◌, refl, ap, subst, not}
use Rattle.std.specs.Prelude.{Option, Some, None, Result, Ok, Err, unwrap_or}
use Rattle.kr_defs.specs.declared.ill.Ill.{Ill}
use Rattle.kr_defs.specs.declared.options.Options.{Options}
use Rattle.kr_defs.specs.declared.record.Record.{Record}
use Rattle.kr_defs.specs.Apply.{apply_record}
use Rattle.kr_defs.specs.Guard.{and_then}
use Rattle.kr_defs.specs.Heartbeats.{Heartbeats}
use Rattle.kr_defs.specs.Image.{Image}
use Rattle.kr_calls.specs.declared.calls.Request.{Request}
use Rattle.kr_calls.specs.declared.calls.Request.TheVariants as requests
use Rattle.kr_calls.specs.declared.deciding.Draft.{Draft}
use Rattle.kr_calls.specs.Deciding.{Work, apply_records, is_within_limits, nothing_decided, work_with, taken, settled, done, one, after_all, after_groups, unless_validating, HaveMeanings}
use Rattle.kr_calls.specs.Decide.{work_of}
use Rattle.kr_calls.specs.Refuse.{refused_create_topics, refused_delete_topics, refused_create_partitions, refused_incremental_alter_configs}
use Rattle.kr_calls.specs.AlterPartition as alter_partition
use Rattle.kr_calls.specs.AlterPartitionReassignments as alter_partition_reassignments
use Rattle.kr_calls.specs.BrokerHeartbeat as broker_heartbeat
use Rattle.kr_calls.specs.BrokerRegistration as broker_registration
use Rattle.kr_calls.specs.CreatePartitions as create_partitions
use Rattle.kr_calls.specs.CreateTopics as create_topics
use Rattle.kr_calls.specs.DeleteTopics as delete_topics
use Rattle.kr_calls.specs.ElectLeaders as elect_leaders
use Rattle.kr_calls.specs.IncrementalAlterConfigs as incremental_alter_configs
use Rattle.kr_calls.specs.UnregisterBroker as unregister_broker

pub applied_in_two : (image : Image) (xs ys : List Record) → apply_records image (xs ++ ys) ≡ and_then (apply_records image xs) (λ after. apply_records after ys)
applied_in_two image [] ys = refl
applied_in_two image (x ∷ xs) ys =
    elim (apply_record image x) as (λ r. and_then r (λ after. apply_records after (xs ++ ys)) ≡ and_then (and_then r (λ after. apply_records after xs)) (λ after. apply_records after ys)) [
      | Ok after ↦ applied_in_two after xs ys
      | Err cause ↦ refl
    ]

module _ (start : Image) where
  added_stand : (w : Work) (records : List Record) (b : Bool) (r : Result Image Ill) (after : Work) → HaveMeanings start w → apply_records w.image records ≡ r → cond b (work_with w records r) None ≡ Some after → HaveMeanings start after
  added_stand w records true (Ok image) after so_far meaning is =
      subst (HaveMeanings start) (ap (λ o. unwrap_or o after) is) (applied_in_two start w.records records ∙ (ap (λ r. and_then r (λ i. apply_records i records)) so_far ∙ meaning))
  added_stand w records true (Err cause) after so_far meaning is = absurd cc
  added_stand w records false r after so_far meaning is = absurd cc

  taken_stand : (w : Work) (records : List Record) (after : Work) → HaveMeanings start w → taken w records ≡ Some after → HaveMeanings start after
  unfolding taken
  taken_stand w records after so_far is = added_stand w records (is_within_limits w.records records) (apply_records w.image records) after so_far refl is

  module _ {E A : Type 0} (refused : ℤ → E → A) where
    settled_stand : (w : Work) (entry : E) (answer : A) (o : Option Work) → ((after : Work) → o ≡ Some after → HaveMeanings start after) → HaveMeanings start w → HaveMeanings start (settled refused w entry answer o).0
    settled_stand w entry answer None stand so_far = so_far
    settled_stand w entry answer (Some after) stand so_far = stand after refl

    done_stand : (w : Work) (entry : E) (r : Result (Draft A) ℤ) → HaveMeanings start w → HaveMeanings start (done refused w entry r).0
    unfolding done
    done_stand w entry (Err error) so_far = so_far
    done_stand w entry (Ok draft) so_far = settled_stand w entry draft.answer (taken w draft.records) (λ after is. taken_stand w draft.records after so_far is) so_far

    module _ (rule : Image → ℤ → E → Result (Draft A) ℤ) where
      pub one_stand : (w : Work) (entry : E) → HaveMeanings start w → HaveMeanings start (one refused rule w entry).0
      one_stand w entry so_far = done_stand w entry (rule w.image w.place entry) so_far

      pub all_stand : (w : Work) (entries : List E) → HaveMeanings start w → HaveMeanings start (after_all refused rule w entries)
      all_stand w [] so_far = so_far
      all_stand w (entry ∷ entries) so_far = all_stand (one refused rule w entry).0 entries (one_stand w entry so_far)

      pub groups_stand : {G B : Type 0} (entries_of : G → List E) (answer_of : G → List A → B) (w : Work) (groups : List G) → HaveMeanings start w → HaveMeanings start (after_groups refused rule entries_of answer_of w groups)
      groups_stand entries_of answer_of w [] so_far = so_far
      groups_stand entries_of answer_of w (group ∷ groups) so_far =
          groups_stand entries_of answer_of (after_all refused rule w (entries_of group)) groups (all_stand w (entries_of group) so_far)

  validated_stand : (validate_only : Bool) (before after : Work) → HaveMeanings start before → HaveMeanings start after → HaveMeanings start (unless_validating validate_only before after)
  validated_stand true before after first then = first
  validated_stand false before after first then = then

  chosen_stand : {X : Type 0} (test : Bool) (x y : Work × X) → HaveMeanings start x.0 → HaveMeanings start y.0 → HaveMeanings start (cond test x y).0
  chosen_stand true x y first then = first
  chosen_stand false x y first then = then

-- every request, by its rule
pub requests_stand : (options : Options) (time : ℤ) (heartbeats : Heartbeats) (image : Image) (place : ℤ) (request : Request) → HaveMeanings image (work_of options time heartbeats image place request).0
unfolding work_of broker_registration.decided broker_heartbeat.decided unregister_broker.decided create_topics.decided delete_topics.decided create_partitions.decided alter_partition.decided elect_leaders.decided alter_partition_reassignments.decided incremental_alter_configs.decided
requests_stand options time heartbeats image place (requests.BrokerRegistration q) = one_stand image broker_registration.refused (broker_registration.rule options time heartbeats) (nothing_decided place image) q refl
requests_stand options time heartbeats image place (requests.BrokerHeartbeat q) = one_stand image broker_heartbeat.refused (broker_heartbeat.rule options heartbeats) (nothing_decided place image) q refl
requests_stand options time heartbeats image place (requests.UnregisterBroker q) = one_stand image unregister_broker.refused (unregister_broker.rule options) (nothing_decided place image) q refl
requests_stand options time heartbeats image place (requests.CreateTopics q) =
    validated_stand image q.validate_only (nothing_decided place image) _ refl (all_stand image refused_create_topics (create_topics.rule options q.validate_only) (nothing_decided place image) q.topics refl)
requests_stand options time heartbeats image place (requests.DeleteTopics q) = all_stand image refused_delete_topics delete_topics.rule (nothing_decided place image) q.topics refl
requests_stand options time heartbeats image place (requests.CreatePartitions q) =
    validated_stand image q.validate_only (nothing_decided place image) _ refl (all_stand image refused_create_partitions create_partitions.rule (nothing_decided place image) q.topics refl)
requests_stand options time heartbeats image place (requests.AlterPartition q) =
    chosen_stand image (alter_partition.is_stale image q) _ _ refl (groups_stand image alter_partition.refused (alter_partition.rule options q.broker) alter_partition.entries_of alter_partition.answer_of (nothing_decided place image) q.topics refl)
requests_stand options time heartbeats image place (requests.ElectLeaders q) =
    chosen_stand image (not (elect_leaders.is_kind q.kind)) _ _ refl (groups_stand image elect_leaders.answer (elect_leaders.rule options q.kind) elect_leaders.entries_of elect_leaders.answer_of (nothing_decided place image) (elect_leaders.groups_of image q.topics) refl)
requests_stand options time heartbeats image place (requests.AlterPartitionReassignments q) =
    groups_stand image alter_partition_reassignments.answer (alter_partition_reassignments.rule options) alter_partition_reassignments.entries_of alter_partition_reassignments.answer_of (nothing_decided place image) q.topics refl
requests_stand options time heartbeats image place (requests.IncrementalAlterConfigs q) =
    validated_stand image q.validate_only (nothing_decided place image) _ refl (all_stand image refused_incremental_alter_configs (incremental_alter_configs.rule options) (nothing_decided place image) q.resources refl)
requests_stand options time heartbeats image place (requests.ListPartitionReassignments q) = refl
requests_stand options time heartbeats image place (requests.Metadata q) = refl

pub ruleset standing = (requests_stand)
