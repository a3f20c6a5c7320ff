-- Laws of elections, of eligible replicas and of changes (this project's own).
use Rattle.std.specs.Prelude.{◌≡◌, ◌⊎◌, ◌||◌, false, List, ℤ, negsuc, Option, IfSome, IsTrue}
use Rattle.kr_defs.specs.declared.partition.Partition.{Partition}
use Rattle.kr_defs.specs.declared.changing.Choice.{Choice}
use Rattle.kr_defs.specs.declared.changing.Choice.TheVariants as choices
use Rattle.kr_defs.specs.declared.changing.Facts.{Facts}
use Rattle.kr_defs.specs.declared.changing.Mode.{Mode}
use Rattle.kr_defs.specs.declared.changing.Want.{Want}
use Rattle.kr_defs.specs.Ids.{has, is_distinct, is_within, are_apart}
use Rattle.kr_defs.specs.Partition.{is_part, is_well_formed}
use Rattle.kr_defs.specs.Merge.{merged}
use Rattle.kr_defs.specs.Elect.{is_unclean_mode, is_restarted, elected}
use Rattle.kr_defs.specs.Eligible.{eligible_after}
use Rattle.kr_defs.specs.Build.{is_sensible, built}

-- an active replica that is in sync
pub record LeadsInSync (replicas in_sync : List ℤ) (facts : Facts) (leader : ℤ) : Type 0 where
  pub replica : IsTrue (has replicas leader)
  pub active : IsTrue (has facts.active leader)
  pub in_sync_now : IsTrue (has in_sync leader)

-- an active replica that is eligible and hasn't restarted uncleanly
pub record LeadsEligible (p : Partition) (replicas : List ℤ) (restarted : Option ℤ) (facts : Facts) (leader : ℤ) : Type 0 where
  pub replica : IsTrue (has replicas leader)
  pub active : IsTrue (has facts.active leader)
  pub eligible : IsTrue (has p.eligible leader)
  pub running : is_restarted restarted leader ≡ false

-- an active replica, where unclean election is on or asked for
pub record LeadsUncleanly (replicas : List ℤ) (mode : Mode) (facts : Facts) (leader : ℤ) : Type 0 where
  pub replica : IsTrue (has replicas leader)
  pub active : IsTrue (has facts.active leader)
  pub allowed : IsTrue (facts.unclean || is_unclean_mode mode)

-- what a leader is, by among whom it was found
abbrev pub IsChoice : Partition → List ℤ → List ℤ → Mode → Option ℤ → Facts → ℤ → Choice → Type 0
IsChoice p replicas in_sync mode restarted facts leader choices.InSync = LeadsInSync replicas in_sync facts leader
IsChoice p replicas in_sync mode restarted facts leader choices.Eligible = LeadsEligible p replicas restarted facts leader
IsChoice p replicas in_sync mode restarted facts leader choices.Unclean = LeadsUncleanly replicas mode facts leader
IsChoice p replicas in_sync mode restarted facts leader choices.Nobody = leader ≡ negsuc 0

-- Who is elected is an active replica that may lead, or -1.
abbrev pub ElectionsAreSound : Type 0
ElectionsAreSound =
    (p : Partition) (replicas in_sync : List ℤ) (mode : Mode) (restarted : Option ℤ) (facts : Facts) →
    IsTrue (is_within in_sync replicas) →
    let election = elected p replicas in_sync mode restarted facts in
    IsChoice p replicas in_sync mode restarted facts election.0 election.1

-- Where unclean election is neither on nor asked for, only a replica in sync or an eligible one leads.
abbrev pub CleanElectionsKeepRecords : Type 0
CleanElectionsKeepRecords =
    (p : Partition) (replicas in_sync : List ℤ) (mode : Mode) (restarted : Option ℤ) (facts : Facts) →
    facts.unclean || is_unclean_mode mode ≡ false →
    let leader = (elected p replicas in_sync mode restarted facts).0 in
    (leader ≡ negsuc 0) ⊎ IsTrue (has in_sync leader || has p.eligible leader)

-- two parts of the replicas with no common member, and none in sync
pub record StandBy (replicas in_sync eligible last_known : List ℤ) : Type 0 where
  pub eligible_part : IsTrue (is_part eligible replicas)
  pub last_known_part : IsTrue (is_part last_known replicas)
  pub eligible_behind : IsTrue (are_apart in_sync eligible)
  pub last_known_behind : IsTrue (are_apart in_sync last_known)
  pub separate : IsTrue (are_apart eligible last_known)

-- The eligible and the last known replicas stand by.
abbrev pub EligibleStandBy : Type 0
EligibleStandBy =
    (p : Partition) (replicas in_sync : List ℤ) (minimum : ℤ) (restarted : Option ℤ) →
    IsTrue (is_distinct replicas) →
    let lists = eligible_after p replicas in_sync minimum restarted in
    StandBy replicas in_sync lists.0 lists.1

-- A change that is built keeps the partition well formed.
abbrev pub BuiltChangesKeepPartitions : Type 0
BuiltChangesKeepPartitions =
    (p : Partition) (want : Want) (facts : Facts) →
    IsTrue (is_well_formed p) → IsTrue (is_sensible want) →
    IfSome (built p want facts) (λ change. IsTrue (is_well_formed (merged p change)))
