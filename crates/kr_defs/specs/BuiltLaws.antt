-- Laws of the changes that are built, and of partitions that are created or emptied (this project's own).
use Rattle.std.specs.Prelude.{◌≡◌, ◌⊎◌, Bool, false, ◌&&◌, ◌||◌, List, [], length, nat_lt, ℤ, negsuc, IfSome, IsTrue}
use Rattle.std.specs.List.{list_all}
use Rattle.kr_defs.specs.declared.partition.Partition.{Partition}
use Rattle.kr_defs.specs.declared.changing.Facts.{Facts}
use Rattle.kr_defs.specs.declared.changing.Want.{Want}
use Rattle.kr_defs.specs.declared.limits.TheConstants.{MOST_REPLICAS}
use Rattle.kr_defs.specs.Ids.{has, is_distinct, is_within, within}
use Rattle.kr_defs.specs.Partition.{is_moving, is_natural, is_part, is_reassignment, is_recovery, target, is_well_formed}
use Rattle.kr_defs.specs.Merge.{merged}
use Rattle.kr_defs.specs.Elect.{is_unclean_mode}
use Rattle.kr_defs.specs.Build.{is_sensible, built}
use Rattle.kr_defs.specs.DefaultWant.{default_want}
use Rattle.kr_defs.specs.NewPartition.{new_partition, emptying}

-- -1, or one of these, or a replica that was eligible
abbrev pub IsAmong : List ℤ → Partition → ℤ → Type 0
IsAmong ids p leader = (leader ≡ negsuc 0) ⊎ IsTrue (has ids leader || has p.eligible leader)

-- Where unclean election is neither on nor asked for, a leader that is named is said to be in sync, or was eligible.
-- Where no further replica is said to be in sync, it was in sync or eligible.
pub record LeadersHadRecords (p : Partition) (want : Want) (facts : Facts) : Type 0 where
  pub wanted : IfSome (built p want facts) (λ change. IfSome change.leader (IsAmong want.in_sync p))
  pub had : IsTrue (is_within want.in_sync p.in_sync) → IfSome (built p want facts) (λ change. IfSome change.leader (IsAmong p.in_sync p))

abbrev pub BuiltLeadersHadRecords : Type 0
BuiltLeadersHadRecords =
    (p : Partition) (want : Want) (facts : Facts) → facts.unclean || is_unclean_mode want.mode ≡ false → LeadersHadRecords p want facts

-- the replicas and the reassignment that are asked for are the partition's own
pub record AsksOwnLists (p : Partition) (want : Want) : Type 0 where
  pub replicas : want.replicas ≡ p.replicas
  pub adding : want.adding ≡ p.adding
  pub removing : want.removing ≡ p.removing

-- a reassignment still runs, or each replica that it led to is in sync
abbrev pub EndsInSync : Partition → Partition → Type 0
EndsInSync p after = IsTrue (is_moving after || is_within (target p) after.in_sync)

-- A reassignment that runs by the lists of the partition goes on, or its target is in sync.
abbrev pub ReassignmentsEndInSync : Type 0
ReassignmentsEndInSync =
    (p : Partition) (want : Want) (facts : Facts) →
    AsksOwnLists p want → IsTrue (is_moving p) →
    IfSome (built p want facts) (λ change. EndsInSync p (merged p change))

-- What is asked of a well formed partition where nothing is named is sensible.
abbrev pub DefaultWantsAreSensible : Type 0
DefaultWantsAreSensible = (p : Partition) → IsTrue (is_well_formed p) → IsTrue (is_sensible (default_want p))

-- sensible, but for how many replicas there are
abbrev pub is_sensible_at_length : Want → Bool
is_sensible_at_length want =
    nat_lt 0 (length want.replicas) && is_distinct want.replicas && list_all is_natural want.replicas
    && is_reassignment want.replicas want.adding want.removing && is_recovery want.recovery

-- more replicas than a partition may have
abbrev pub has_too_many : Partition → Bool
has_too_many p = nat_lt MOST_REPLICAS (length p.replicas)

-- What is sensible but for too many replicas leads to a well formed partition, or to one with too many.
abbrev pub LongListsAreTheOnlyFault : Type 0
LongListsAreTheOnlyFault =
    (p : Partition) (want : Want) (facts : Facts) →
    IsTrue (is_well_formed p) → IsTrue (is_sensible_at_length want) →
    IfSome (built p want facts) (λ change. IsTrue (has_too_many (merged p change)) ⊎ IsTrue (is_well_formed (merged p change)))

-- A partition is well formed where it is created, with any of its replicas in sync, or the active ones.
pub record NewPartitionsAreWellFormed (replicas : List ℤ) : Type 0 where
  pub some : (in_sync : List ℤ) → IsTrue (is_part in_sync replicas) → IsTrue (is_well_formed (new_partition replicas in_sync))
  pub active : (active : List ℤ) → IsTrue (is_well_formed (new_partition replicas (within replicas active)))

-- The change that empties the eligible and the last known replicas does, and keeps the partition well formed.
pub record EmptyingKeeps (p : Partition) : Type 0 where
  pub eligible : (merged p (emptying p)).eligible ≡ []
  pub last_known : (merged p (emptying p)).last_known ≡ []
  pub well_formed : IsTrue (is_well_formed p) → IsTrue (is_well_formed (merged p (emptying p)))
