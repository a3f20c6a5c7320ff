-- A timeline's index stays one of all its maps while they change.
use Rattle.std.proofs.Common.{◌≡◌, ℕ, ℤ, Bool, true, false, cond, List, [], ◌∷◌, ◌++◌, sym, subst, filter, find, not}
use Rattle.std.specs.Prelude.{Option, Some, All, int_lt, unwrap_or}
use Rattle.std.specs.Ordering.{int_cmp, int_eq}
use Rattle.std.specs.List.{AllByRecursion}
use Rattle.std.specs.Option.{option_map}
use Rattle.std.proofs.lemmas.List.Elements.{All-filter, All-from_recursion, recursion_from_All}
use Rattle.kr_defs.specs.declared.partition.Partition.{Partition}
use Rattle.kr_defs.specs.Image.{Image, empty}
use Rattle.kr_defs.specs.KeptMaps.{Kept, KeptMaps, no_maps, oldest_unmade}
use Rattle.kr_defs.specs.Map.{get, insert, partition_order, remove}
use Rattle.kr_replicas.specs.BrokerPartitions.{AreAtLeast, has_replica, has_standing_by, keys_or_none}
use Rattle.kr_replicas.proofs.Partitions.{at_least, least_none}
use Rattle.kr_store.specs.Reads.{AreAtLeastEverywhere, seen_at}
use Rattle.kr_store.specs.declared.places.At.{At}
use Rattle.kr_store.specs.declared.places.At.TheVariants as places
use Rattle.kr_image.specs.declared.kept_counts.KeptCounts.{KeptCounts}
use Rattle.kr_image.specs.declared.partition_index.PartitionIndex.{PartitionIndex}
use Rattle.kr_image.specs.declared.timelines.Timelines.{Timelines}
use Rattle.kr_image.specs.inner.PartitionKeys.{HasKey, InAll, IndexGrows, IsIndexOf}
use Rattle.kr_image.specs.KeptImages.{images_in, images_of}
use Rattle.kr_image.specs.Timelines.{Keeps, image_in, keeps_of, map_in}
use Rattle.kr_image.proofs.IndexedMaps.{index_gone, index_more, index_set, listed_none}
use Rattle.kr_image.proofs.KeptLists.{all_push, all_weaker}

abbrev Key : Type 0
Key = ℕ × ℤ

abbrev Entry : Type 0
Entry = Key × Partition

abbrev Maps : Type 0
Maps = KeptMaps Key Partition

abbrev KeptMap : Type 0
KeptMap = Kept Key Partition

-- ---- all maps of a timeline

module _ (P : List Entry → Type 0) where
  abbrev OfKept : KeptMap → Type 0
  OfKept k = P k.map

  kept_unmade : (kept : List KeptMap) → AllByRecursion OfKept kept → AllByRecursion OfKept (oldest_unmade kept)
  kept_unmade [] a = tt
  kept_unmade (k ∷ kept) a = (a.0, a.1)

  -- what is true of each kept map, and of none, is true of that which is found
  found_map : P [] → (epoch : ℤ) (kept : List KeptMap) → AllByRecursion OfKept kept → P (map_in kept epoch)
  found_map none epoch [] a = none
  found_map none epoch (k ∷ kept) a =
      elim (int_eq k.epoch epoch) as (λ b. P (unwrap_or (option_map (λ (k : KeptMap). k.map) (cond b (Some k) (find (λ (k : KeptMap). int_eq k.epoch epoch) kept))) [])) [
        | true ↦ a.0
        | false ↦ found_map none epoch kept a.1
      ]

  pub in_none : (maps : Maps) → P [] → maps ≡ no_maps → InAll P maps
  in_none maps none is = subst (InAll P) (sym is) (record { present = none; kept = All-from_recursion OfKept [] tt })

  pub in_same : (maps after : Maps) → InAll P maps → after.present ≡ maps.present → after.kept ≡ maps.kept → InAll P after
  in_same maps after all present kept = record { present = subst P (sym present) all.present; kept = subst (All OfKept) (sym kept) all.kept }

  pub in_marked : (maps after : Maps) (epoch : ℤ) → InAll P maps → after.kept ≡ maps.kept ++ record { epoch = epoch; map = maps.present; made = maps.made } ∷ [] → after.present ≡ maps.present → InAll P after
  in_marked maps after epoch all kept present =
      let own : KeptMap = record { epoch = epoch; map = maps.present; made = maps.made } in
      record {
        present = subst P (sym present) all.present;
        kept = subst (All OfKept) (sym kept) (All-from_recursion OfKept (maps.kept ++ own ∷ []) (all_push OfKept maps.kept own (recursion_from_All OfKept maps.kept all.kept) all.present));
      }

  pub in_reverted : (maps after : Maps) (epoch : ℤ) → P [] → InAll P maps → after.kept ≡ filter (λ (k : KeptMap). not (int_lt epoch k.epoch)) maps.kept → after.present ≡ map_in maps.kept epoch → InAll P after
  in_reverted maps after epoch none all kept present = record {
    present = subst P (sym present) (found_map none epoch maps.kept (recursion_from_All OfKept maps.kept all.kept));
    kept = subst (All OfKept) (sym kept) (All-filter (λ (k : KeptMap). not (int_lt epoch k.epoch)) OfKept maps.kept all.kept);
  }

  pub in_restored : (maps after : Maps) (epoch : ℤ) → P [] → InAll P maps → after.kept ≡ maps.kept → after.present ≡ map_in maps.kept epoch → InAll P after
  in_restored maps after epoch none all kept present = record {
    present = subst P (sym present) (found_map none epoch maps.kept (recursion_from_All OfKept maps.kept all.kept));
    kept = subst (All OfKept) (sym kept) all.kept;
  }

  pub in_forgotten : (maps after : Maps) (epoch : ℤ) → InAll P maps → after.kept ≡ oldest_unmade (filter (λ (k : KeptMap). not (int_lt k.epoch epoch)) maps.kept) → after.present ≡ maps.present → InAll P after
  in_forgotten maps after epoch all kept present =
      let left : List KeptMap = filter (λ (k : KeptMap). not (int_lt k.epoch epoch)) maps.kept in
      record {
        present = subst P (sym present) all.present;
        kept = subst (All OfKept) (sym kept) (All-from_recursion OfKept (oldest_unmade left) (kept_unmade left (recursion_from_All OfKept left (All-filter (λ (k : KeptMap). not (int_lt k.epoch epoch)) OfKept maps.kept all.kept))));
      }

  -- another present map
  pub in_changed : (maps after : Maps) → InAll P maps → P after.present → after.kept ≡ maps.kept → InAll P after
  in_changed maps after all present kept = record { present = present; kept = subst (All OfKept) (sym kept) all.kept }

in_weaker : (P Q : List Entry → Type 0) → ((es : List Entry) → P es → Q es) → (maps : Maps) → InAll P maps → InAll Q maps
in_weaker P Q to maps all =
    let p : KeptMap → Type 0 = λ k. P k.map in
    let q : KeptMap → Type 0 = λ k. Q k.map in
    record { present = to maps.present all.present; kept = All-from_recursion q maps.kept (all_weaker p q (λ k. to k.map) maps.kept (recursion_from_All p maps.kept all.kept)) }

-- ---- an index of all

pub new_index : (index : PartitionIndex) (maps : Maps) → IsIndexOf index [] → maps ≡ no_maps → InAll (IsIndexOf index) maps
new_index index maps none is = in_none (IsIndexOf index) maps none is

module _ (index : PartitionIndex) (maps after : Maps) where
  abbrev Of : List Entry → Type 0
  Of = IsIndexOf index

  pub same_index : InAll Of maps → after ≡ maps → InAll Of after
  same_index all same = subst (InAll Of) (sym same) all

  pub unchanged_index : InAll Of maps → after.present ≡ maps.present → after.kept ≡ maps.kept → InAll Of after
  unchanged_index = in_same Of maps after

  pub marked_index : (epoch : ℤ) → InAll Of maps → after.kept ≡ maps.kept ++ record { epoch = epoch; map = maps.present; made = maps.made } ∷ [] → after.present ≡ maps.present → InAll Of after
  marked_index = in_marked Of maps after

  pub reverted_index : (epoch : ℤ) → InAll Of maps → after.kept ≡ filter (λ (k : KeptMap). not (int_lt epoch k.epoch)) maps.kept → after.present ≡ map_in maps.kept epoch → InAll Of after
  reverted_index epoch = in_reverted Of maps after epoch (listed_none index)

  pub restored_index : (epoch : ℤ) → InAll Of maps → after.kept ≡ maps.kept → after.present ≡ map_in maps.kept epoch → InAll Of after
  restored_index epoch = in_restored Of maps after epoch (listed_none index)

  pub forgotten_index : (epoch : ℤ) → InAll Of maps → after.kept ≡ oldest_unmade (filter (λ (k : KeptMap). not (int_lt k.epoch epoch)) maps.kept) → after.present ≡ maps.present → InAll Of after
  forgotten_index = in_forgotten Of maps after

  pub unset_index : (key : Key) → InAll Of maps → after.present ≡ remove partition_order maps.present key → after.kept ≡ maps.kept → InAll Of after
  unset_index key all present kept = in_changed Of maps after all (subst Of (sym present) (index_gone index maps.present key all.present)) kept

pub ruleset listing = (new_index, same_index, unchanged_index, marked_index, reverted_index, restored_index, forgotten_index, unset_index)

-- it grows
pub grown_index : (before index : PartitionIndex) (maps : Maps) → InAll (IsIndexOf before) maps → IndexGrows before index → InAll (IsIndexOf index) maps
grown_index before index maps all grows = in_weaker (IsIndexOf before) (IsIndexOf index) (λ es. index_more before index es grows) maps all

-- a partition is set whose key is listed
pub set_index : (index : PartitionIndex) (maps after : Maps) (key : Key) (p : Partition) → InAll (IsIndexOf index) maps → HasKey index key p → after.present ≡ insert partition_order maps.present key p → after.kept ≡ maps.kept → InAll (IsIndexOf index) after
set_index index maps after key p all own present kept =
    in_changed (IsIndexOf index) maps after all (subst (IsIndexOf index) (sym present) (index_set index maps.present key p own all.present)) kept

-- ---- what is looked up

pub looked_up : (index : PartitionIndex) (broker : ℤ) (found : Option (List Key)) (maps : Maps) → InAll (IsIndexOf index) maps → found ≡ get int_cmp index.listed broker → InAll (AreAtLeast (keys_or_none found) (has_replica broker)) maps
looked_up index broker found maps all is =
    in_weaker (IsIndexOf index) (AreAtLeast (keys_or_none found) (has_replica broker)) (λ es of. at_least index.listed broker found es of.replicas is) maps all

pub standing_listed : (index : PartitionIndex) (maps : Maps) → InAll (IsIndexOf index) maps → InAll (AreAtLeast index.standing has_standing_by) maps
standing_listed index maps all = in_weaker (IsIndexOf index) (AreAtLeast index.standing has_standing_by) (λ es of. of.standing) maps all

module _ (P : List Entry → Type 0) (none : P []) where
  image_kept : (epoch : ℤ) (kept : Keeps) (list : List KeptCounts) → ((x : ℤ) → P (map_in kept.partitions x)) → P (unwrap_or (option_map (λ (k : ℤ × Image). k.1) (find (λ (k : ℤ × Image). int_eq k.0 epoch) (images_in kept list))) empty).partitions
  image_kept epoch kept [] each = none
  image_kept epoch kept (k ∷ list) each =
      let own : ℤ × Image = (k.epoch, image_in kept k.epoch) in
      elim (int_eq k.epoch epoch) as (λ b. P (unwrap_or (option_map (λ (k : ℤ × Image). k.1) (cond b (Some own) (find (λ (k : ℤ × Image). int_eq k.0 epoch) (images_in kept list)))) empty).partitions) [
        | true ↦ each k.epoch
        | false ↦ image_kept epoch kept list each
      ]

  in_images : (t : Timelines) (list : List KeptCounts) (begun : Option ℤ) → InAll P t.partitions.maps → (place : At) → P (seen_at (images_of t list begun) place).partitions
  in_images t list begun all places.Tip = all.present
  in_images t list begun all (places.Epoch epoch) =
      image_kept epoch (keeps_of t) list (λ x. found_map P none x t.partitions.maps.kept (recursion_from_All (λ (k : KeptMap). P k.map) t.partitions.maps.kept all.kept))

pub everywhere : (keys : List Key) (test : Partition → Bool) (t : Timelines) (list : List KeptCounts) (begun : Option ℤ) → InAll (AreAtLeast keys test) t.partitions.maps → AreAtLeastEverywhere keys test (images_of t list begun)
everywhere keys test t list begun all = in_images (AreAtLeast keys test) (least_none keys test) t list begun all
