-- Rows of five conditions, where each is passed.
use Rattle.std.proofs.Common.{◌≡◌, ℕ, ℤ, true, false, refl}
use Rattle.std.specs.Prelude.{length, Some, Ok, Result, nat_le}
use Rattle.kr_defs.specs.declared.partition.Partition.{Partition}
use Rattle.kr_defs.specs.declared.partition.PartitionChange.{PartitionChange}
use Rattle.kr_defs.specs.declared.limits.TheConstants.{MOST_PARTITIONS}
use Rattle.kr_defs.specs.declared.ill.Ill.{Ill}
use Rattle.kr_defs.specs.Apply as apply
use Rattle.kr_defs.specs.Image.{Image, has_topic, is_index}
use Rattle.kr_defs.specs.Map as map
use Rattle.kr_defs.specs.Map.{partition_order}
use Rattle.kr_defs.specs.Merge.{merged}
use Rattle.kr_defs.specs.Partition.{is_well_formed}

pub ok_is : (a b : Image) → a ≡ b → ◌≡◌ {A = Result Image Ill} (Ok a) (Ok b)
ok_is a b h = rw h refl

pub partition_added : (image : Image) (index : ℤ) (topic : ℕ) (state : Partition) → has_topic image.topics topic ≡ true → is_index index ≡ true → map.contains partition_order image.partitions (topic, index) ≡ false
    → is_well_formed state ≡ true → nat_le MOST_PARTITIONS (length image.partitions) ≡ false
    → apply.add_partition image index topic state ≡ Ok (record image { partitions = map.insert partition_order image.partitions (topic, index) state })
partition_added image index topic state owned fits new formed free = rw (owned, fits, new, formed, free) refl

pub partition_changed : (image : Image) (index : ℤ) (topic : ℕ) (change : PartitionChange) (old : Partition) → has_topic image.topics topic ≡ true → map.get partition_order image.partitions (topic, index) ≡ Some old
    → is_well_formed (merged old change) ≡ true
    → apply.change_partition image index topic change ≡ Ok (record image { partitions = map.insert partition_order image.partitions (topic, index) (merged old change) })
partition_changed image index topic change old owned there formed = rw (owned, there, formed) refl
