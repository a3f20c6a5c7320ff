-- In which order the members of a report are tested.
use Rattle.std.proofs.Common.{◌≡◌, ℤ, Bool, true, false, List, length, refl}
use Rattle.std.specs.Prelude.{◌==◌, ◌&&◌, ◌||◌, not}
use Rattle.kr_defs.specs.declared.partition.Partition.{Partition}
use Rattle.kr_defs.specs.Ids.{has, is_distinct, is_within}
use Rattle.kr_defs.specs.Partition.{is_part}
use Rattle.kr_calls.specs.AlterPartition.{are_bad_members}

any_order : (empty distinct led within : Bool) → (empty || not led || not (distinct && within)) ≡ (empty || not distinct || not led || not within)
any_order true distinct led within = refl
any_order false true led within = refl
any_order false false true within = refl
any_order false false false within = refl

pub bad_members : (p : Partition) (ids : List ℤ) → (length ids == 0 || not (has ids p.leader) || not (is_part ids p.replicas)) ≡ are_bad_members p ids
bad_members p ids = any_order (length ids == 0) (is_distinct ids) (has ids p.leader) (is_within ids p.replicas)
