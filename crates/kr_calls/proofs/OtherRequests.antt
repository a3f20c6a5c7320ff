-- Requests that aren't a broker's own leave the brokers and who is heard of.
use Rattle.std.proofs.Common.{◌≡◌, ◌∙◌, ℤ, false, List, refl, not}
use Rattle.std.specs.Prelude.{Result}
use Rattle.kr_defs.specs.declared.options.Options.{Options}
use Rattle.kr_defs.specs.Heartbeats.{Heartbeats, heard}
use Rattle.kr_defs.specs.Image.{Image}
use Rattle.kr_calls.specs.declared.calls.Request.{Request}
use Rattle.kr_calls.specs.declared.calls.Request.TheVariants as requests
use Rattle.kr_calls.specs.declared.deciding.Draft.{Draft}
use Rattle.kr_calls.specs.Deciding.{Work, nothing_decided}
use Rattle.kr_calls.specs.Decide.{work_of}
use Rattle.kr_calls.specs.NextBasis.{heartbeats_after}
use Rattle.kr_calls.specs.NextBasisLaws.{OtherRequestsLeaveBrokers, is_of_a_broker}
use Rattle.kr_calls.specs.Refuse.{refused_create_topics, refused_delete_topics, refused_create_partitions, refused_incremental_alter_configs}
use Rattle.kr_calls.specs.AlterPartition as alter_partition
use Rattle.kr_calls.specs.AlterPartitionReassignments as alter_partition_reassignments
use Rattle.kr_calls.specs.CreatePartitions as create_partitions
use Rattle.kr_calls.specs.CreateTopics as create_topics
use Rattle.kr_calls.specs.DeleteTopics as delete_topics
use Rattle.kr_calls.specs.ElectLeaders as elect_leaders
use Rattle.kr_calls.specs.IncrementalAlterConfigs as incremental_alter_configs
use Rattle.kr_calls.proofs.BrokersLeft.{AreBrokerless, all_leave, creates, deletes, grows, reports, elects, reassigns, configures}
use Rattle.kr_calls.proofs.KeptByRequests.{Keeps, all_keep, groups_keep, validated_keep, chosen_keep, any_entry, any_groups}

module _ (image : Image) where
  abbrev I : Work → Type 0
  I w = w.image.brokers ≡ image.brokers

  keeps : {E A : Type 0} (refused : ℤ → E → A) (rule : Image → ℤ → E → Result (Draft A) ℤ) → AreBrokerless rule → Keeps refused rule I (λ _. Unit {0})
  keeps refused rule are w entry is so_far draft gives after by = all_leave w.image draft.records (are w.image w.place entry draft gives) after.image by.applied ∙ so_far

  all : {E A : Type 0} (refused : ℤ → E → A) (rule : Image → ℤ → E → Result (Draft A) ℤ) → AreBrokerless rule → (place : ℤ) (entries : List E) → I (Rattle.kr_calls.specs.Deciding.after_all refused rule (nothing_decided place image) entries)
  all refused rule are place entries = all_keep refused rule I (λ _. Unit {0}) (keeps refused rule are) (nothing_decided place image) entries (any_entry entries) refl

  groups : {E A G B : Type 0} (refused : ℤ → E → A) (rule : Image → ℤ → E → Result (Draft A) ℤ) → AreBrokerless rule → (entries_of : G → List E) (answer_of : G → List A → B) (place : ℤ) (those : List G) → I (Rattle.kr_calls.specs.Deciding.after_groups refused rule entries_of answer_of (nothing_decided place image) those)
  groups refused rule are entries_of answer_of place those =
      groups_keep refused rule I (λ _. Unit {0}) entries_of answer_of (keeps refused rule are) (nothing_decided place image) those (any_groups entries_of those) refl

registered : (options : Options) (time : ℤ) (heartbeats : Heartbeats) (image : Image) (place : ℤ) (request : Request) → is_of_a_broker request ≡ false → I image (work_of options time heartbeats image place request).0
unfolding work_of create_topics.decided delete_topics.decided create_partitions.decided alter_partition.decided elect_leaders.decided alter_partition_reassignments.decided incremental_alter_configs.decided
registered options time heartbeats image place (requests.BrokerRegistration q) other = absurd cc
registered options time heartbeats image place (requests.BrokerHeartbeat q) other = absurd cc
registered options time heartbeats image place (requests.UnregisterBroker q) other = absurd cc
registered options time heartbeats image place (requests.CreateTopics q) other =
    validated_keep (I image) q.validate_only (nothing_decided place image) _ refl (all image refused_create_topics (create_topics.rule options q.validate_only) (creates options q.validate_only) place q.topics)
registered options time heartbeats image place (requests.DeleteTopics q) other = all image refused_delete_topics delete_topics.rule deletes place q.topics
registered options time heartbeats image place (requests.CreatePartitions q) other =
    validated_keep (I image) q.validate_only (nothing_decided place image) _ refl (all image refused_create_partitions create_partitions.rule grows place q.topics)
registered options time heartbeats image place (requests.AlterPartition q) other =
    chosen_keep (I image) (alter_partition.is_stale image q) _ _ refl (groups image alter_partition.refused (alter_partition.rule options q.broker) (reports options q.broker) alter_partition.entries_of alter_partition.answer_of place q.topics)
registered options time heartbeats image place (requests.ElectLeaders q) other =
    chosen_keep (I image) (not (elect_leaders.is_kind q.kind)) _ _ refl (groups image elect_leaders.answer (elect_leaders.rule options q.kind) (elects options q.kind) elect_leaders.entries_of elect_leaders.answer_of place (elect_leaders.groups_of image q.topics))
registered options time heartbeats image place (requests.AlterPartitionReassignments q) other =
    groups image alter_partition_reassignments.answer (alter_partition_reassignments.rule options) (reassigns options) alter_partition_reassignments.entries_of alter_partition_reassignments.answer_of place q.topics
registered options time heartbeats image place (requests.IncrementalAlterConfigs q) other =
    validated_keep (I image) q.validate_only (nothing_decided place image) _ refl (all image refused_incremental_alter_configs (incremental_alter_configs.rule options) (configures options) place q.resources)
registered options time heartbeats image place (requests.ListPartitionReassignments q) other = refl
registered options time heartbeats image place (requests.Metadata q) other = refl

heard_of : (h : Heartbeats) (before after : Image) (now place : ℤ) (request : Request) (reply : Rattle.kr_calls.specs.declared.calls.Reply.Reply) → is_of_a_broker request ≡ false → heartbeats_after h before after now place request reply ≡ h
unfolding heartbeats_after
heard_of h before after now place (requests.BrokerRegistration q) reply other = absurd cc
heard_of h before after now place (requests.BrokerHeartbeat q) reply other = absurd cc
heard_of h before after now place (requests.UnregisterBroker q) reply other = absurd cc
heard_of h before after now place (requests.CreateTopics q) reply other = refl
heard_of h before after now place (requests.DeleteTopics q) reply other = refl
heard_of h before after now place (requests.CreatePartitions q) reply other = refl
heard_of h before after now place (requests.AlterPartition q) reply other = refl
heard_of h before after now place (requests.ElectLeaders q) reply other = refl
heard_of h before after now place (requests.AlterPartitionReassignments q) reply other = refl
heard_of h before after now place (requests.IncrementalAlterConfigs q) reply other = refl
heard_of h before after now place (requests.ListPartitionReassignments q) reply other = refl
heard_of h before after now place (requests.Metadata q) reply other = refl

pub others_leave : OtherRequestsLeaveBrokers
others_leave options basis image place request other = record {
  registered = registered options basis.time (heard basis) image place request other;
  heard_of = heard_of _ image _ basis.time place request _ other;
}
