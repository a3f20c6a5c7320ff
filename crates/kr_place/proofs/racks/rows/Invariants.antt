use Rattle.std.proofs.Common.{◌≡◌, ◌++◌}
use Rattle.std.specs.BTreeMap.{btree_map_len}
use Rattle.std.specs.Map.{values_of}
use Rattle.kr_place.proofs.racks.rows.Given as goal

abbrev pub invariant-loop-ids : goal.invariant-loop-ids
invariant-loop-ids l = l.rows.items ++ values_of l.racks.entries ≡ values_of l.initial.racks.entries

abbrev pub decreases-loop-ids : goal.decreases-loop-ids
decreases-loop-ids l = btree_map_len l.racks
