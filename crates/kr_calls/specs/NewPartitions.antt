-- The replicas of new partitions, given or placed (KIP-631's PartitionRecord; the rules are this project's own).
use Rattle.std.specs.Prelude.{◌+◌, ℕ, suc, ℤ, pos, Bool, ◌&&◌, List, [], ◌∷◌, filter, map, unsigned_abs}
use Rattle.std.specs.List.{list_all, list_any, range_with_len}
use Rattle.std.specs.Ordering.{int_cmp}
use Rattle.kr_defs.specs.declared.record.Record.{Record}
use Rattle.kr_defs.specs.Map as entries
use Rattle.kr_defs.specs.declared.record.Record.TheVariants as kinds
use Rattle.kr_defs.specs.Brokers.{active, is_active}
use Rattle.kr_defs.specs.Ids.{has, within}
use Rattle.kr_defs.specs.Image.{Image}
use Rattle.kr_defs.specs.NewPartition.{new_partition}
use Rattle.kr_defs.specs.Partition.{are_targets}
use Rattle.kr_defs.specs.Placed.{Rack, placed}

-- the replicas may be those of a new partition: registered brokers, of which one is active
abbrev pub is_assignable : Image → List ℤ → Bool
is_assignable image ids =
    are_targets ids && list_all (entries.contains int_cmp image.brokers) ids && list_any (has (active image)) ids

-- the active brokers, each with its rack
abbrev pub racked : Image → List (ℤ × Rack)
racked image = map (λ e. (e.0, e.1.rack)) (filter (λ e. is_active e.1) image.brokers)

-- the replicas of so many partitions from an index on, placed from a place on
abbrev pub placements : Image → ℤ → ℕ → ℕ → ℕ → List (List ℤ)
placements image place first count factor =
    map (λ index. placed (racked image) (unsigned_abs place + index) factor) (range_with_len first count)

-- the records of new partitions over these replicas, from an index on: the active ones are in sync, and the first of them leads
abbrev pub new_partitions : Image → ℕ → ℕ → List (List ℤ) → List Record
new_partitions image id first [] = []
new_partitions image id first (replicas ∷ lists) =
    kinds.Partition (pos first) id (new_partition replicas (within replicas (active image))) ∷ new_partitions image id (suc first) lists
