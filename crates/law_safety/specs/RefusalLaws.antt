-- Laws of refusals: why the records that a rule gives may not be taken, so that its entry is answered by Kafka's
-- POLICY_VIOLATION (this project's own).
use Rattle.std.specs.Prelude.{◌≡◌, ℕ, ℤ, pos, int_lt, Bool, true, false, List, [], ◌∷◌, Result, IsTrue, MatchResult}
use Rattle.std.specs.Option.{option_map_or}
use Rattle.std.specs.Ordering.{int_cmp, int_eq}
use Rattle.kr_defs.specs.declared.ill.Ill.{Ill}
use Rattle.kr_defs.specs.declared.ill.Ill.TheVariants.{BadNumber, BadPartition, Limit, StaleEpoch}
use Rattle.kr_defs.specs.declared.limits.TheConstants.{LAST_INDEX}
use Rattle.kr_defs.specs.declared.options.Options.{Options}
use Rattle.kr_defs.specs.declared.record.Record.{Record}
use Rattle.kr_defs.specs.declared.record.Record.TheVariants as kinds
use Rattle.kr_defs.specs.Apply.{apply_record}
use Rattle.kr_defs.specs.BuiltLaws.{has_too_many}
use Rattle.kr_defs.specs.Image.{Image, IsValid}
use Rattle.kr_defs.specs.Map as entries
use Rattle.kr_defs.specs.Map.{partition_order}
use Rattle.kr_defs.specs.Merge.{merged}
use Rattle.kr_defs.specs.Heartbeats.{Heartbeats}
use Rattle.kr_calls.specs.declared.deciding.Draft.{Draft}
use Rattle.kr_calls.specs.declared.errors.TheConstants.{POLICY_VIOLATION}
use Rattle.kr_calls.specs.AlterPartition as alter_partition
use Rattle.kr_calls.specs.AlterPartitionReassignments as alter_partition_reassignments
use Rattle.kr_calls.specs.BrokerHeartbeat as broker_heartbeat
use Rattle.kr_calls.specs.BrokerRegistration as broker_registration
use Rattle.kr_calls.specs.CreatePartitions as create_partitions
use Rattle.kr_calls.specs.CreateTopics as create_topics
use Rattle.kr_calls.specs.DeleteTopics as delete_topics
use Rattle.kr_calls.specs.ElectLeaders as elect_leaders
use Rattle.kr_calls.specs.IncrementalAlterConfigs as incremental_alter_configs
use Rattle.kr_calls.specs.UnregisterBroker as unregister_broker

-- The record has no meaning on the image because it passes a limit: of the image; of the indexes of partitions; of the
-- replicas of one, which a reassignment brings together; or because a registration stands from above its place.
abbrev pub is_past_limit : ℤ → Image → Record → Ill → Bool
is_past_limit place image other Limit = true
is_past_limit place image (kinds.Partition index topic state) BadNumber = int_lt LAST_INDEX index
is_past_limit place image (kinds.PartitionChange index topic change) BadPartition =
    option_map_or (λ p. has_too_many (merged p change)) (entries.get partition_order image.partitions (topic, index)) false
is_past_limit place image (kinds.RegisterBroker broker state) StaleEpoch =
    option_map_or (λ old. int_lt place old.epoch) (entries.get int_cmp image.brokers broker) false
is_past_limit place image other cause = false

-- the first of the records that has no meaning, if any, passes a limit
abbrev pub BreakAtLimits : ℤ → Image → List Record → Type 0
BreakAtLimits place image [] = Unit {0}
BreakAtLimits place image (r ∷ records) =
    MatchResult (apply_record image r) (λ after. BreakAtLimits place after records) (λ cause. IsTrue (is_past_limit place image r cause))

-- On a valid image the records that the rule gives are refused by limits alone, and it doesn't answer so itself.
abbrev pub IsRefusedByLimits : {E A : Type 0} → (Image → ℤ → E → Result (Draft A) ℤ) → Type 0
IsRefusedByLimits {E} rule =
    (image : Image) (place : ℕ) (entry : E) → IsValid image →
    MatchResult (rule image (pos place) entry) (λ draft. BreakAtLimits (pos place) image draft.records) (λ error. int_eq error POLICY_VIOLATION ≡ false)

-- The rules of all requests are so: nothing else is answered by POLICY_VIOLATION than a passed limit.
pub record LimitsAloneRefuse : Type 0 where
  pub registrations : (options : Options) (time : ℤ) (heard : Heartbeats) → IsRefusedByLimits (broker_registration.rule options time heard)
  pub heartbeats : (options : Options) (heard : Heartbeats) → IsRefusedByLimits (broker_heartbeat.rule options heard)
  pub unregistrations : (options : Options) → IsRefusedByLimits (unregister_broker.rule options)
  pub new_topics : (options : Options) (validate_only : Bool) → IsRefusedByLimits (create_topics.rule options validate_only)
  pub removed_topics : IsRefusedByLimits delete_topics.rule
  pub new_partitions : IsRefusedByLimits create_partitions.rule
  pub reports : (options : Options) (broker : ℤ) → IsRefusedByLimits (alter_partition.rule options broker)
  pub elections : (options : Options) (kind : ℤ) → IsRefusedByLimits (elect_leaders.rule options kind)
  pub reassignments : (options : Options) → IsRefusedByLimits (alter_partition_reassignments.rule options)
  pub settings : (options : Options) → IsRefusedByLimits (incremental_alter_configs.rule options)
