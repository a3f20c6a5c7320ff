-- The keys of partitions that are listed beside the maps of a timeline.
use Rattle.std.specs.Prelude.{◌≡◌, ℕ, ℤ, true, List, All, map}
use Rattle.kr_defs.specs.declared.partition.Partition.{Partition}
use Rattle.kr_defs.specs.Ids.{has}
use Rattle.kr_defs.specs.KeptMaps.{Kept, KeptMaps}
use Rattle.kr_replicas.specs.BrokerPartitions.{AreAtLeast, Grows, KeepsKeys, Lists, has_standing_by, holds_key, lists_key}
use Rattle.kr_image.specs.declared.kept_counts.KeptCounts.{KeptCounts}
use Rattle.kr_image.specs.declared.partition_index.PartitionIndex.{PartitionIndex}

-- every broker's partitions are listed for it, and those that a replica stands by of
pub record IsIndexOf (index : PartitionIndex) (partitions : List ((ℕ × ℤ) × Partition)) : Type 0 where
  pub replicas : Lists index.listed partitions
  pub standing : AreAtLeast index.standing has_standing_by partitions

-- the key of the partition is listed for its replicas, and among the keys of those that a replica stands by of, if one does
pub record HasKey (index : PartitionIndex) (key : ℕ × ℤ) (p : Partition) : Type 0 where
  pub replicas : (broker : ℤ) → has p.replicas broker ≡ true → lists_key index.listed broker key ≡ true
  pub standing : has_standing_by p ≡ true → holds_key index.standing key ≡ true

-- what was listed still is
pub record IndexGrows (before after : PartitionIndex) : Type 0 where
  pub replicas : Grows before.listed after.listed
  pub standing : KeepsKeys before.standing after.standing

-- this is true of every kept map
abbrev pub InKept : (List ((ℕ × ℤ) × Partition) → Type 0) → List (Kept (ℕ × ℤ) Partition) → Type 0
InKept P kept = All (λ (k : Kept (ℕ × ℤ) Partition). P k.map) kept

-- this is true of the present map, and of every kept one
pub record InAll (P : List ((ℕ × ℤ) × Partition) → Type 0) (maps : KeptMaps (ℕ × ℤ) Partition) : Type 0 where
  pub present : P maps.present
  pub kept : InKept P maps.kept

-- the maps are kept under these epochs
abbrev pub HaveSameEpochs : List (Kept (ℕ × ℤ) Partition) → List KeptCounts → Type 0
HaveSameEpochs maps kept = map (λ (k : Kept (ℕ × ℤ) Partition). k.epoch) maps ≡ map (λ (k : KeptCounts). k.epoch) kept
