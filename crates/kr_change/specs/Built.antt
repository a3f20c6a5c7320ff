-- What a change leaves of a partition.
use Rattle.std.specs.Prelude.{Option, IfSome, IsTrue}
use Rattle.kr_defs.specs.declared.partition.Partition.{Partition}
use Rattle.kr_defs.specs.declared.partition.PartitionChange.{PartitionChange}
use Rattle.kr_defs.specs.Merge.{merged}
use Rattle.kr_defs.specs.Partition.{is_well_formed}

-- under the change, where there is one, it is well formed
abbrev pub IsWellFormedUnder : Partition → Option PartitionChange → Type 0
IsWellFormedUnder partition built = IfSome built (λ change. IsTrue (is_well_formed (merged partition change)))
