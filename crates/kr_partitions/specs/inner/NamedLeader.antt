-- The leader that a change names.
use Rattle.std.specs.Prelude.{ℕ, ℤ, Bool, true, negsuc, unwrap_or, Option, Some, None, Result, Ok}
use Rattle.std.specs.Ordering.{int_eq}
use Rattle.kr_defs.specs.declared.partition.PartitionChange.{PartitionChange}
use Rattle.kr_defs.specs.Guard.{refuse◌when◌else◌}
use Rattle.kr_calls.specs.declared.errors.TheConstants.{ELIGIBLE_LEADERS_NOT_AVAILABLE}
use Rattle.kr_calls.specs.declared.deciding.Draft.{Draft}
use Rattle.kr_calls.specs.declared.elect_leaders.PartitionElectionResult.{PartitionElectionResult}
use Rattle.kr_calls.specs.ElectLeaders.{Entry, drafted}

-- none, or -1
abbrev pub names_nobody : Option PartitionChange → Bool
names_nobody None = true
names_nobody (Some change) = int_eq (unwrap_or change.leader (negsuc 0)) (negsuc 0)

-- what is said of a change of an election that may find nobody
unfoldable pub with_leader : Entry → ℕ → Option PartitionChange → Result (Draft PartitionElectionResult) ℤ
with_leader entry id change = refuse ELIGIBLE_LEADERS_NOT_AVAILABLE when names_nobody change else Ok (drafted entry id change)
