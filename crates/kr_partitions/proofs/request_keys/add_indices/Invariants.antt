use Rattle.std.proofs.Common.{◌≡◌, ◌||◌, ◌&&◌, take, ℕ, ℤ}
use Rattle.std.specs.Prelude.{◌==◌}
use Rattle.std.specs.BTreeSet.{contains}
use Rattle.kr_defs.specs.Ids.{has}
use Rattle.kr_defs.specs.Map.{partition_order}
use Rattle.kr_partitions.proofs.request_keys.add_indices.Given as goal

abbrev pub invariant-loop-index : goal.invariant-loop-index
invariant-loop-index l = (k : ℕ × ℤ) → contains partition_order l.keys k ≡ (contains partition_order l.initial.keys k || (l.id == k.0 && has (take l.index-index l.indices) k.1))
