-- Kafka's POLICY_VIOLATION by computation: what the limits of requests let through, and what is one more.
use Rattle.std.specs.Prelude.{◌≡◌, ℕ, ℤ, pos, negsuc, true, false, List, [], ◌∷◌, ◌+◌, map, Some, None, codes}
use Rattle.std.specs.List.{range_with_len}
use Rattle.std.proofs.Common.{refl, replicate}
use Rattle.kr_defs.specs.declared.broker.Broker.{Broker}
use Rattle.kr_defs.specs.declared.options.Options.{Options}
use Rattle.kr_defs.specs.declared.partition.Partition.{Partition}
use Rattle.kr_defs.specs.declared.record.Record.TheVariants as kinds
use Rattle.kr_defs.specs.Apply.{apply_record}
use Rattle.kr_defs.specs.Build.{aimed, built, completes, difference, ended, settled, standing_by}
use Rattle.kr_defs.specs.Elect.{elected}
use Rattle.kr_defs.specs.Eligible.{eligible_after}
use Rattle.kr_defs.specs.Heartbeats.{Heartbeats}
use Rattle.kr_defs.specs.Image.{Image}
use Rattle.kr_defs.specs.Merge.{merged}
use Rattle.kr_defs.specs.NewPartition.{new_partition}
use Rattle.kr_defs.specs.Partition.{is_well_formed}
use Rattle.kr_defs.specs.Sizes.{value_bytes}
use Rattle.kr_calls.specs.declared.errors.TheConstants.{POLICY_VIOLATION}
use Rattle.kr_calls.specs.declared.broker_registration.BrokerRegistration.{BrokerRegistration}
use Rattle.kr_calls.specs.declared.calls.Reply.{Reply}
use Rattle.kr_calls.specs.declared.calls.Reply.TheVariants as replies
use Rattle.kr_calls.specs.AlterPartitionReassignments as alter_partition_reassignments
use Rattle.kr_calls.specs.BrokerRegistration as broker_registration
use Rattle.kr_calls.specs.CreatePartitions as create_partitions
use Rattle.kr_calls.specs.Deciding.{done, is_request, is_within_limits, taken}

-- so many ids from one on
abbrev ids : ℕ → ℕ → List ℤ
ids first n = map (λ k. pos k) (range_with_len first n)

abbrev broker : ℤ → Broker
broker epoch = record { epoch = epoch; incarnation = 100; endpoints = []; features = []; rack = None; fenced = false; stopping = false }

-- all replicas are in sync, and the first leads
abbrev whole : List ℤ → Partition
whole replicas = new_partition replicas replicas

-- so many brokers from 1 on, and a topic
abbrev cluster : ℕ → List ((ℕ × ℤ) × Partition) → Image
cluster brokers partitions = record {
  brokers = map (λ id. (id, broker (pos 13))) (ids 1 brokers);
  topics = (codes "t", 77) ∷ [];
  partitions = partitions;
  configs = [];
  features = [];
}

abbrev options : Options
options = record { node = pos 1; salt = 7; session_ms = 9000; partitions = pos 1; factor = pos 1; minimum = pos 1; cluster = codes "c1" }

abbrev none_heard : Heartbeats
none_heard = record { contacts = []; stopping = [] }

-- ---- records of one request

records_10000 : is_request (replicate 10000 kinds.NoOp) ≡ true
unfolding value_bytes
records_10000 = refl

records_10001 : is_request (replicate 10001 kinds.NoOp) ≡ false
unfolding value_bytes
records_10001 = refl

-- the records before count
records_before : is_within_limits (replicate 10000 kinds.NoOp) (kinds.NoOp ∷ []) ≡ false
unfolding value_bytes
records_before = refl

targets_32 : is_within_limits [] (kinds.Partition (pos 0) 77 (whole (ids 1 32)) ∷ []) ≡ true
unfolding value_bytes
targets_32 = refl

targets_33 : is_within_limits [] (kinds.Partition (pos 0) 77 (whole (ids 1 33)) ∷ []) ≡ false
unfolding value_bytes
targets_33 = refl

-- ---- a registration that is older than the one that stands

abbrev registers : BrokerRegistration
registers = record {
  broker = pos 1;
  cluster = codes "c1";
  incarnation = 101;
  listeners = record { name = []; host = codes "h"; port = 1; protocol = pos 0 } ∷ [];
  features = [];
  rack = None;
  migrating = false;
  previous_epoch = pos 13;
}

-- where the registration is decided at this place
abbrev registered_at : ℤ → Reply
registered_at place = (broker_registration.decided options (pos 0) none_heard (cluster 1 []) place registers).1

as_old : registered_at (pos 13) ≡ replies.BrokerRegistration (record { error = pos 0; epoch = pos 13 })
unfolding broker_registration.decided done taken apply_record value_bytes
as_old = refl

older : registered_at (pos 12) ≡ replies.BrokerRegistration (record { error = POLICY_VIOLATION; epoch = negsuc 0 })
unfolding broker_registration.decided done taken apply_record value_bytes
older = refl

-- ---- an index that is one too many

-- one partition more, where this is the last
abbrev grown_from : ℕ → Reply
grown_from last =
    (create_partitions.decided (cluster 1 (((77, pos 0), whole (pos 1 ∷ [])) ∷ ((77, pos last), whole (pos 1 ∷ [])) ∷ [])) (pos 30)
    (record { topics = record { name = codes "t"; count = pos (last + 2); assignments = Some (record { brokers = pos 1 ∷ [] } ∷ []) } ∷ []; validate_only = true })).1

index_8999 : grown_from 8998 ≡ replies.CreatePartitions (record { results = record { name = codes "t"; error = pos 0 } ∷ [] })
unfolding create_partitions.decided done taken apply_record value_bytes is_well_formed
index_8999 = refl

index_9000 : grown_from 8999 ≡ replies.CreatePartitions (record { results = record { name = codes "t"; error = POLICY_VIOLATION } ∷ [] })
unfolding create_partitions.decided done taken apply_record value_bytes is_well_formed
index_9000 = refl

-- ---- a reassignment over too many replicas

-- 32 replicas that are all others, where so many stand
abbrev moved_from : ℕ → Reply
moved_from n =
    (alter_partition_reassignments.decided options (cluster 65 (((77, pos 0), whole (ids 1 n)) ∷ [])) (pos 30)
    (record { topics = record { name = codes "t"; partitions = record { index = pos 0; replicas = Some (ids 34 32) } ∷ [] } ∷ [] })).1

abbrev moves : ℤ → Reply
moves error =
    replies.AlterPartitionReassignments (record { error = pos 0; responses = record { name = codes "t"; partitions = record { index = pos 0; error = error } ∷ [] } ∷ [] })

replicas_64 : moved_from 32 ≡ moves (pos 0)
unfolding alter_partition_reassignments.decided built aimed ended completes elected settled standing_by eligible_after difference merged done taken apply_record value_bytes is_well_formed
replicas_64 = refl

replicas_65 : moved_from 33 ≡ moves POLICY_VIOLATION
unfolding alter_partition_reassignments.decided built aimed ended completes elected settled standing_by eligible_after difference merged done taken apply_record value_bytes is_well_formed
replicas_65 = refl
