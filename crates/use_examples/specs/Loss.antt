-- A partition of which only some brokers are left, as a planner asks it of the rules.
use Rattle.std.specs.Prelude.{ℤ, List, Option, Some, None, false}
use Rattle.kr_defs.specs.declared.changing.Facts.{Facts}
use Rattle.kr_defs.specs.declared.partition.Partition.{Partition}
use Rattle.kr_defs.specs.declared.partition.PartitionChange.{PartitionChange}
use Rattle.kr_defs.specs.Build.{built}
use Rattle.kr_defs.specs.DefaultWant.{default_want}
use Rattle.kr_defs.specs.Ids.{within}
use Rattle.kr_defs.specs.Merge.{merged}

abbrev pub changed_by : Partition → Option PartitionChange → Partition
changed_by p None = p
changed_by p (Some change) = merged p change

-- in sync are the active ones alone; unclean election is off
abbrev pub with_only : Partition → List ℤ → ℤ → Partition
with_only p active minimum =
    let want = record (default_want p) { in_sync = within p.in_sync active } in
    changed_by p (built p want (record { active = active; unclean = false; minimum = minimum }))
