-- KIP-455: the lists of a partition while a reassignment from an original to a target runs.
use Rattle.std.specs.Prelude.{◌≡◌, ◌++◌, ◌&&◌, length, nat_le, List, ℤ, IsTrue}
use Rattle.kr_defs.specs.declared.limits.TheConstants.{MOST_REPLICAS}
use Rattle.kr_defs.specs.Partition.{are_replicas, is_reassignment}
use Rattle.kr_defs.specs.Ids.{has, is_distinct, without}

-- the target, then the members of the original that it hasn't
abbrev pub reassigned : List ℤ → List ℤ → List ℤ
reassigned target original = target ++ without original target

abbrev pub added : List ℤ → List ℤ → List ℤ
added target original = without target original

abbrev pub removed : List ℤ → List ℤ → List ℤ
removed target original = without original target

-- A reassignment's lists lead to its target, and back to the members of its original.
pub record LeadsBothWays (target original : List ℤ) : Type 0 where
  pub to_target : without (reassigned target original) (removed target original) ≡ target
  pub from_original : (id : ℤ) → has (without (reassigned target original) (added target original)) id ≡ has original id
  pub distinct : IsTrue (is_distinct target) → IsTrue (is_distinct original) → IsTrue (is_distinct (reassigned target original))

abbrev pub ReassignmentsLeadBothWays : Type 0
ReassignmentsLeadBothWays = (target original : List ℤ) → LeadsBothWays target original

-- Between two replica lists that together aren't too many, a reassignment's lists meet the rules.
abbrev pub ReassignmentsAreSensible : Type 0
ReassignmentsAreSensible =
    (target original : List ℤ) → IsTrue (are_replicas target) → IsTrue (are_replicas original) →
    IsTrue (nat_le (length (reassigned target original)) MOST_REPLICAS) →
    IsTrue (are_replicas (reassigned target original)
    && is_reassignment (reassigned target original) (added target original) (removed target original))
