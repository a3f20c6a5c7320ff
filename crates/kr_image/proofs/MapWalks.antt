-- An index that is made by walks over all maps of a timeline is one of each.
use Rattle.std.proofs.Common.{◌≡◌, ◌∙◌, ℕ, ℤ, true, false, cond, List, [], ◌∷◌, refl, sym, ap, subst, length, map, find}
use Rattle.std.specs.Prelude.{Option, Some, None, All, MatchOption, unwrap_or}
use Rattle.std.specs.declared.cmp.Ordering.TheVariants.{Less, Equal}
use Rattle.std.specs.Ordering.{int_cmp, int_eq}
use Rattle.std.specs.List.{AllByRecursion}
use Rattle.std.specs.List.Sorted.{IsStrictlySortedBy}
use Rattle.std.specs.Option.{option_map}
use Rattle.std.proofs.lemmas.Bool.Decides.{Decides-int_eq}
use Rattle.std.proofs.lemmas.Cmp.{int_cmp_total, tied_itself}
use Rattle.std.proofs.lemmas.List.Elements.{All-from_recursion, recursion_from_All}
use Rattle.kr_defs.specs.declared.partition.Partition.{Partition}
use Rattle.kr_defs.specs.Ids.{has}
use Rattle.kr_defs.specs.KeptMaps.{Kept, KeptMaps}
use Rattle.kr_defs.specs.Map.{IsMap, above, next, partition_order}
use Rattle.kr_defs.proofs.ImageParts.{partition_total}
use Rattle.kr_defs.proofs.Walks.{walk_end, walk_next}
use Rattle.kr_replicas.specs.BrokerPartitions.{has_standing_by, holds_key, lists_key}
use Rattle.kr_store.specs.declared.places.At.{At}
use Rattle.kr_store.specs.declared.places.At.TheVariants as places
use Rattle.kr_image.specs.declared.kept_counts.KeptCounts.{KeptCounts}
use Rattle.kr_image.specs.declared.partition_index.PartitionIndex.{PartitionIndex}
use Rattle.kr_image.specs.inner.PartitionKeys.{HasKey, HaveSameEpochs, InAll, InKept, IndexGrows, IsIndexOf}
use Rattle.kr_image.specs.inner.TimelineMaps.{entries_at}
use Rattle.kr_image.specs.Timelines.{map_in}
use Rattle.kr_image.proofs.IndexedMaps.{grows_itself, grows_on, index_more, listed_none}
use Rattle.kr_image.proofs.KeptLists.{all_map, all_mapped, same_epoch}

abbrev Key : Type 0
Key = ℕ × ℤ

abbrev Entry : Type 0
Entry = Key × Partition

abbrev KeptMap : Type 0
KeptMap = Kept Key Partition

-- ---- one map

-- what has all of this index, and is one of the partitions that are left, is one of all
abbrev pub StillIndex : List Entry → List Entry → PartitionIndex → Type 0
StillIndex ps left now = (later : PartitionIndex) → IndexGrows now later → IsIndexOf later left → IsIndexOf later ps

one_more : (later : PartitionIndex) (e : Entry) (rest : List Entry) → HasKey later e.0 e.1 → IsIndexOf later rest → IsIndexOf later (e ∷ rest)
one_more later e rest own is =
    let test : ℤ → Entry → Type 0 = λ broker d. has d.1.replicas broker ≡ true → lists_key later.listed broker d.0 ≡ true in
    let stands : Entry → Type 0 = λ d. has_standing_by d.1 ≡ true → holds_key later.standing d.0 ≡ true in
    record {
      replicas = λ broker. All-from_recursion (test broker) (e ∷ rest) (own.replicas broker, recursion_from_All (test broker) rest (is.replicas broker));
      standing = All-from_recursion stands (e ∷ rest) (own.standing, recursion_from_All stands rest is.standing);
    }

key_later : (now later : PartitionIndex) (key : Key) (p : Partition) → IndexGrows now later → HasKey now key p → HasKey later key p
key_later now later key p grows own = record {
  replicas = λ broker there. grows.replicas broker key (own.replicas broker there);
  standing = λ stands. grows.standing key (own.standing stands);
}

pub still_more : (ps : List Entry) (after : Option Key) (e : Entry) (now new : PartitionIndex) → IsMap partition_order ps → Some e ≡ next partition_order ps after → HasKey new e.0 e.1 → IndexGrows now new → StillIndex ps (above partition_order ps after) now → StillIndex ps (above partition_order ps (Some e.0)) new
still_more ps after e now new ordered found own more still later grows is =
    let all : IsIndexOf later (e ∷ above partition_order ps (Some e.0)) = one_more later e (above partition_order ps (Some e.0)) (key_later new later e.0 e.1 grows own) is in
    still later (grows_on now new later more grows) (subst (IsIndexOf later) (sym (walk_next partition_total ps after e ordered (sym found))) all)

pub still_all : (ps : List Entry) (after : Option Key) (now : PartitionIndex) → None ≡ next partition_order ps after → StillIndex ps (above partition_order ps after) now → IsIndexOf now ps
still_all ps after now none still =
    still now (grows_itself now) (subst (IsIndexOf now) (sym (walk_end (above partition_order ps after) (sym none))) (listed_none now))

-- the next entry of a map, where there is one
pub next_found : (o : Option (List Entry)) (after : Option Key) (e : Option Entry) → MatchOption o (false ≡ true) (λ (es : List Entry). e ≡ next partition_order es after) → e ≡ next partition_order (unwrap_or o []) after
next_found None after e found = absurd cc
next_found (Some es) after e found = found

pub next_missing : (o : Option (List Entry)) (after : Option Key) → MatchOption o (true ≡ true) (λ (es : List Entry). ⊥) → None ≡ next partition_order (unwrap_or o []) after
next_missing None None missing = refl
next_missing None (Some key) missing = refl
next_missing (Some es) after missing = absurd missing

-- each map has its keys in order
ordered_in : (epoch : ℤ) (kept : List KeptMap) → AllByRecursion (λ (k : KeptMap). IsMap partition_order k.map) kept → IsMap partition_order (map_in kept epoch)
unfolding IsStrictlySortedBy
ordered_in epoch [] a = tt
ordered_in epoch (k ∷ kept) a =
    elim (int_eq k.epoch epoch) as (λ b. IsMap partition_order (unwrap_or (option_map (λ (k : KeptMap). k.map) (cond b (Some k) (find (λ (k : KeptMap). int_eq k.epoch epoch) kept))) [])) [
      | true ↦ a.0
      | false ↦ ordered_in epoch kept a.1
    ]

pub map_ordered : (maps : KeptMaps Key Partition) (place : At) → IsMap partition_order maps.present → All (λ (k : KeptMap). IsMap partition_order k.map) maps.kept → IsMap partition_order (unwrap_or (entries_at maps place) [])
map_ordered maps places.Tip present kept = present
map_ordered maps (places.Epoch epoch) present kept = ordered_in epoch maps.kept (recursion_from_All (λ (k : KeptMap). IsMap partition_order k.map) maps.kept kept)

-- ---- all kept maps

-- what has all of this index, and is one of the maps of the epochs that are left, is one of those of all
abbrev pub LeftIndex : List KeptMap → List KeptCounts → List KeptCounts → PartitionIndex → Type 0
LeftIndex maps list left now =
    (later : PartitionIndex) → IndexGrows now later → AllByRecursion (λ (k : KeptCounts). IsIndexOf later (map_in maps k.epoch)) left → AllByRecursion (λ (k : KeptCounts). IsIndexOf later (map_in maps k.epoch)) list

pub left_begin : (maps : List KeptMap) (list left : List KeptCounts) (now : PartitionIndex) → left ≡ list → LeftIndex maps list left now
left_begin maps list left now is later grows all = subst (AllByRecursion (λ (k : KeptCounts). IsIndexOf later (map_in maps k.epoch))) is all

pub left_more : (maps : List KeptMap) (list left : List KeptCounts) (k : KeptCounts) (rest : List KeptCounts) (now new : PartitionIndex) → left ≡ k ∷ rest → LeftIndex maps list left now → IndexGrows now new → IsIndexOf new (map_in maps k.epoch) → LeftIndex maps list rest new
left_more maps list left k rest now new is index more own later grows all =
    index later (grows_on now new later more grows) (subst (AllByRecursion (λ (k : KeptCounts). IsIndexOf later (map_in maps k.epoch))) (sym is) (index_more new later (map_in maps k.epoch) grows own, all))

-- the map that is kept under an epoch is its own
apart : (x y : ℤ) → int_cmp x y ≡ Less → int_eq x y ≡ false
apart x y less = elim (int_eq x y) as (λ b. int_eq x y ≡ b → b ≡ false) [
  | true ↦ λ is. let tied : Less ≡ Equal = sym less ∙ (ap (λ (z : ℤ). int_cmp z y) ((Decides-int_eq x y).0 is) ∙ tied_itself int_cmp_total y) in absurd cc
  | false ↦ λ is. refl
] refl

later_maps : (k : KeptMap) (all ds : List KeptMap) → AllByRecursion (λ z. int_cmp k.epoch z ≡ Less) (map (λ (k : KeptMap). k.epoch) ds) → AllByRecursion (λ (d : KeptMap). map_in all d.epoch ≡ d.map) ds → AllByRecursion (λ (d : KeptMap). map_in (k ∷ all) d.epoch ≡ d.map) ds
later_maps k all [] below own = tt
later_maps k all (d ∷ ds) below own =
    (ap (λ b. unwrap_or (option_map (λ (k : KeptMap). k.map) (cond b (Some k) (find (λ (k : KeptMap). int_eq k.epoch d.epoch) all))) []) (apart k.epoch d.epoch below.0) ∙ own.0, later_maps k all ds below.1 own.1)

own_maps : (kept : List KeptMap) → IsStrictlySortedBy int_cmp (map (λ (k : KeptMap). k.epoch) kept) → AllByRecursion (λ (k : KeptMap). map_in kept k.epoch ≡ k.map) kept
unfolding IsStrictlySortedBy
own_maps [] rising = tt
own_maps (k ∷ kept) rising =
    (ap (λ b. unwrap_or (option_map (λ (k : KeptMap). k.map) (cond b (Some k) (find (λ (d : KeptMap). int_eq d.epoch k.epoch) kept))) []) (same_epoch k.epoch), later_maps k kept kept rising.0 (own_maps kept rising.1))

each_own : (index : PartitionIndex) (kept ds : List KeptMap) → AllByRecursion (λ (d : KeptMap). map_in kept d.epoch ≡ d.map) ds → AllByRecursion (λ (d : KeptMap). IsIndexOf index (map_in kept d.epoch)) ds → AllByRecursion (λ (d : KeptMap). IsIndexOf index d.map) ds
each_own index kept [] own is = tt
each_own index kept (d ∷ ds) own is = (subst (IsIndexOf index) own.0 is.0, each_own index kept ds own.1 is.1)

none_left : (left : List KeptCounts) → length left ≡ 0 → left ≡ []
none_left [] none = refl
none_left (k ∷ left) none = absurd cc

pub left_none : (maps : List KeptMap) (list left : List KeptCounts) (now : PartitionIndex) → length left ≡ 0 → IsStrictlySortedBy int_cmp (map (λ (k : KeptMap). k.epoch) maps) → HaveSameEpochs maps list → LeftIndex maps list left now → InKept (IsIndexOf now) maps
left_none maps list left now none rising same index =
    let P : ℤ → Type 0 = λ x. IsIndexOf now (map_in maps x) in
    let of : KeptCounts → Type 0 = λ k. IsIndexOf now (map_in maps k.epoch) in
    let all : AllByRecursion of list = index now (grows_itself now) (subst (AllByRecursion of) (sym (none_left left none)) tt) in
    let each : AllByRecursion P (map (λ (k : KeptMap). k.epoch) maps) = subst (AllByRecursion P) (sym same) (all_mapped (λ (k : KeptCounts). k.epoch) P list all) in
    All-from_recursion (λ (k : KeptMap). IsIndexOf now k.map) maps (each_own now maps maps (own_maps maps rising) (all_map (λ (k : KeptMap). k.epoch) P maps each))

pub ruleset each_epoch = (left_begin, left_more, left_none, grows_itself, grows_on)

-- the present map was listed first
pub all_listed : (before index : PartitionIndex) (maps : KeptMaps Key Partition) → IsIndexOf before maps.present → IndexGrows before index → InKept (IsIndexOf index) maps.kept → InAll (IsIndexOf index) maps
all_listed before index maps first grows kept = record { present = index_more before index maps.present grows first; kept = kept }
