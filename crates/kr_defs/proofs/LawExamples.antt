-- What the laws say, computed on examples.
use Rattle.std.proofs.Common.{◌≡◌, refl, true, false, List, [], ◌∷◌, ℤ, ℕ, zero, suc, pos, negsuc, Some, None}
use Rattle.std.specs.Prelude.{Ok, codes}
use Rattle.std.specs.Option.{option_map}
use Rattle.std.specs.Ordering.{int_cmp}
use Rattle.kr_defs.specs.declared.broker.Broker.{Broker}
use Rattle.kr_defs.specs.declared.partition.Partition.{Partition}
use Rattle.kr_defs.specs.declared.partition.PartitionChange.{PartitionChange}
use Rattle.kr_defs.specs.declared.record.Record.TheVariants as kinds
use Rattle.kr_defs.specs.declared.changing.Facts.{Facts}
use Rattle.kr_defs.specs.declared.changing.Want.{Want}
use Rattle.kr_defs.specs.Image.{Image, empty}
use Rattle.kr_defs.specs.Apply.{apply, apply_record}
use Rattle.kr_defs.specs.Log.{apply_all}
use Rattle.kr_defs.specs.Map.{get, insert, above, next, partition_order}
use Rattle.kr_defs.specs.Records.{records_of}
use Rattle.kr_defs.specs.ImageLaws.{as_items}
use Rattle.kr_defs.specs.Walk.{of_topic}
use Rattle.kr_defs.specs.BuiltLaws.{is_sensible_at_length, has_too_many}
use Rattle.kr_defs.specs.KeptMaps.{KeptMaps, no_maps, map_at, inserted, removed, marked, reverted, forgotten}
use Rattle.kr_defs.specs.KeptLaws.{Insert, Remove, Mark, Revert, Forget, after_actions}
use Rattle.kr_defs.specs.Partition.{is_well_formed}
use Rattle.kr_defs.specs.Merge.{merged}
use Rattle.kr_defs.specs.Elect.{elected}
use Rattle.kr_defs.specs.Eligible.{eligible_after}
use Rattle.kr_defs.specs.Build.{is_sensible, built, aimed, completes, ended, settled, standing_by, difference}
use Rattle.kr_defs.specs.DefaultWant.{default_want}
use Rattle.kr_defs.specs.NewPartition.{new_partition, emptying}

-- ---- images

abbrev state : Partition
state = new_partition (pos 1 ∷ []) (pos 1 ∷ [])

abbrev broker : Broker
broker = record { epoch = pos 5; incarnation = 77; endpoints = []; features = []; rack = None; fenced = true; stopping = false }

-- by name `a` stands before `b`, by id behind it
abbrev image : Image
image = record {
  brokers = (pos 1, broker) ∷ (pos 3, broker) ∷ [];
  topics = (codes "a", 9) ∷ (codes "b", 4) ∷ [];
  partitions = ((4, pos 0), state) ∷ ((9, pos 0), state) ∷ ((9, pos 1), state) ∷ [];
  configs = (record { kind = pos 2; name = codes "a"; key = codes "k" }, codes "v") ∷ (record { kind = pos 4; name = []; key = codes "k" }, []) ∷ [];
  features = (codes "f", pos 2) ∷ [];
}

own_records : records_of image ≡ kinds.FeatureLevel (codes "f") (pos 2)
    ∷ kinds.RegisterBroker (pos 1) broker
    ∷ kinds.RegisterBroker (pos 3) broker
    ∷ kinds.Topic (codes "a") 9
    ∷ kinds.Partition (pos 0) 9 state
    ∷ kinds.Partition (pos 1) 9 state
    ∷ kinds.Topic (codes "b") 4
    ∷ kinds.Partition (pos 0) 4 state
    ∷ kinds.Config (pos 2) (codes "a") (codes "k") (Some (codes "v"))
    ∷ kinds.Config (pos 4) [] (codes "k") (Some [])
    ∷ []
unfolding records_of
own_records = refl

image_made : apply_all empty (as_items (records_of image)) ≡ Ok image
unfolding records_of apply apply_record is_well_formed
image_made = refl

-- ---- maps

second_entry : next int_cmp image.brokers (Some (pos 1)) ≡ Some (pos 3, broker)
second_entry = refl

other_stays : get int_cmp (insert int_cmp image.brokers (pos 2) broker) (pos 3) ≡ Some broker
other_stays = refl

-- the walk of topic 4 comes to a partition of topic 9, and none of its own is left
topic_begins : of_topic 9 (above partition_order image.partitions (Some (9, negsuc 0))) ≡ ((9, pos 0), state) ∷ ((9, pos 1), state) ∷ []
topic_begins = refl

topic_over : of_topic 4 (above partition_order image.partitions (Some (4, pos 0))) ≡ []
topic_over = refl

-- ---- epochs

abbrev a : ℤ
a = pos 7

-- the key has 1 at epoch 5 and 2 at epoch 7, and then it is taken out
abbrev taken_out : KeptMaps ℤ ℕ
taken_out = after_actions int_cmp no_maps (Insert a 1 ∷ Mark (pos 5) ∷ Insert a 2 ∷ Mark (pos 7) ∷ Remove a ∷ [])

-- then come a value, two marks, a revert and another value
abbrev later : KeptMaps ℤ ℕ
later = after_actions int_cmp taken_out (Insert a 3 ∷ Mark (pos 9) ∷ Remove a ∷ Mark (pos 11) ∷ Revert (pos 9) ∷ Insert (pos 8) 4 ∷ Forget (pos 7) ∷ [])

back_at_seven : option_map (λ (back : KeptMaps ℤ ℕ). back.present) (reverted later (pos 7)) ≡ Some ((a, 2) ∷ [])
unfolding marked inserted removed reverted forgotten
back_at_seven = refl

-- forgetting below 7 has left 7 and 9, and reverting to 9 has dropped 11
kept_at_nine : map_at later (pos 9) ≡ Some ((a, 3) ∷ [])
unfolding marked inserted removed reverted forgotten
kept_at_nine = refl

not_at_five : map_at later (pos 5) ≡ None
unfolding marked inserted removed reverted forgotten
not_at_five = refl

not_at_eleven : map_at later (pos 11) ≡ None
unfolding marked inserted removed reverted forgotten
not_at_eleven = refl

-- ---- partitions

-- so many replicas
abbrev ids_below : ℕ → List ℤ
ids_below zero = []
ids_below (suc n) = pos n ∷ ids_below n

abbrev asked : ℕ → Want
asked count = record (default_want state) { replicas = ids_below count }

most_is_sensible : is_sensible (asked 64) ≡ true
most_is_sensible = refl

more_is_not : is_sensible (asked 65) ≡ false
more_is_not = refl

sensible_but_long : is_sensible_at_length (asked 65) ≡ true
sensible_but_long = refl

abbrev among : List ℤ → Facts
among active = record { active = active; unclean = false; minimum = pos 2 }

-- and leads to a partition with too many
too_many : option_map (λ (change : PartitionChange). has_too_many (merged state change)) (built state (asked 65) (record { active = []; unclean = false; minimum = pos 1 })) ≡ Some true
unfolding built aimed ended completes settled standing_by elected eligible_after difference merged
too_many = refl

-- it is being reassigned to 3, 4 and 5
abbrev reassigning : Partition
reassigning = record { replicas = pos 3 ∷ pos 4 ∷ pos 5 ∷ pos 1 ∷ pos 2 ∷ []; in_sync = pos 1 ∷ pos 2 ∷ pos 3 ∷ []; eligible = []; last_known = []; adding = pos 4 ∷ pos 5 ∷ []; removing = pos 1 ∷ pos 2 ∷ []; leader = pos 1; recovery = pos 0; leader_epoch = pos 0; partition_epoch = pos 1 }

-- one replica of three is in sync, and another is eligible
abbrev returned : Partition
returned = record { replicas = pos 1 ∷ pos 2 ∷ pos 3 ∷ []; in_sync = pos 1 ∷ []; eligible = pos 2 ∷ []; last_known = []; adding = []; removing = []; leader = pos 1; recovery = pos 0; leader_epoch = pos 3; partition_epoch = pos 4 }

default_is_sensible : is_sensible (default_want reassigning) ≡ true
default_is_sensible = refl

-- nothing changes where nothing is named
default_changes_nothing : built returned (default_want returned) (among (pos 1 ∷ pos 3 ∷ [])) ≡ None
unfolding built aimed ended completes settled standing_by elected eligible_after difference
default_changes_nothing = refl

-- the first replica in sync leads, and nobody where none is in sync
created : new_partition (pos 4 ∷ pos 2 ∷ []) (pos 2 ∷ []) ≡ record { replicas = pos 4 ∷ pos 2 ∷ []; in_sync = pos 2 ∷ []; eligible = []; last_known = []; adding = []; removing = []; leader = pos 2; recovery = pos 0; leader_epoch = pos 0; partition_epoch = pos 0 }
created = refl

created_well_formed : is_well_formed (new_partition (pos 4 ∷ pos 2 ∷ []) (pos 2 ∷ [])) ≡ true
unfolding is_well_formed
created_well_formed = refl

created_without_leader : (new_partition (pos 4 ∷ pos 2 ∷ []) []).leader ≡ negsuc 0
created_without_leader = refl

-- only the eligible list is named, since the last known one is empty already
emptied : emptying returned ≡ record { in_sync = None; replicas = None; removing = None; adding = None; eligible = Some []; last_known = None; leader = None; recovery = None }
emptied = refl

emptied_merged : merged returned (emptying returned) ≡ record returned { eligible = []; partition_epoch = pos 5 }
unfolding merged
emptied_merged = refl
