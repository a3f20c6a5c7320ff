-- A report that knows its partition's epochs.
use Rattle.std.specs.Prelude.{ℕ, ℤ, List, Result, Ok}
use Rattle.kr_defs.specs.declared.options.Options.{Options}
use Rattle.kr_defs.specs.declared.partition.Partition.{Partition}
use Rattle.kr_defs.specs.Image.{Image}
use Rattle.kr_calls.specs.declared.deciding.Draft.{Draft}
use Rattle.kr_calls.specs.declared.alter_partition.AlterPartitionResult.{AlterPartitionResult}
use Rattle.kr_calls.specs.AlterPartition.{Entry, accepted, with_members}

-- what is said of it
unfoldable pub of_members : Options → ℤ → Image → Entry → List ℕ → Partition → Result (Draft AlterPartitionResult) ℤ
of_members options broker image entry name p =
    with_members broker image p entry.1 (Ok (accepted options broker image entry name p))
