-- An index of the partitions of a map, while they change and it grows.
use Rattle.std.proofs.Common.{◌≡◌, ℕ, ℤ, true, cond, List, [], ◌∷◌, refl, sym, subst}
use Rattle.std.specs.Prelude.{Some}
use Rattle.std.specs.declared.cmp.Ordering.TheVariants.{Less, Equal, Greater}
use Rattle.std.specs.Ordering.{is_eq}
use Rattle.std.specs.BTreeSet.{insert_key}
use Rattle.std.specs.List.{AllByRecursion}
use Rattle.std.specs.Option.{option_map}
use Rattle.std.proofs.lemmas.List.Elements.{recursion_from_All}
use Rattle.kr_defs.specs.declared.partition.Partition.{Partition}
use Rattle.kr_defs.specs.Ids.{has}
use Rattle.kr_defs.specs.Map.{get, insert, partition_order, remove}
use Rattle.kr_defs.proofs.Tests.{some_is}
use Rattle.kr_replicas.specs.BrokerPartitions.{Grows, KeepsKeys, Lists, has_standing_by, holds_key, lists_key}
use Rattle.kr_replicas.proofs.Partitions.{among_itself, least_gone, least_more, least_none, least_set, listed_for, lists_gone, lists_more, lists_none, lists_set, more_keys, same_partition}
use Rattle.kr_image.specs.declared.partition_index.PartitionIndex.{PartitionIndex}
use Rattle.kr_image.specs.inner.PartitionKeys.{HasKey, IndexGrows, IsIndexOf}

abbrev Key : Type 0
Key = ℕ × ℤ

abbrev Entry : Type 0
Entry = Key × Partition

abbrev Listed : Type 0
Listed = List (ℤ × List Key)

-- ---- the replicas of an entry are listed already

known_for : (listed : Listed) (broker : ℤ) (key : Key) (replicas : List ℤ) (es : List Entry)
    → AllByRecursion (λ (e : Entry). has e.1.replicas broker ≡ true → lists_key listed broker e.0 ≡ true) es
    → option_map (λ (p : Partition). p.replicas) (get partition_order es key) ≡ Some replicas → has replicas broker ≡ true → lists_key listed broker key ≡ true
known_for listed broker key replicas [] a found there = absurd cc
known_for listed broker key replicas (e ∷ es) a found there =
    elim (partition_order key e.0) as (λ r. partition_order key e.0 ≡ r → option_map (λ (p : Partition). p.replicas) (cond (is_eq r) (Some e.1) (get partition_order es key)) ≡ Some replicas → lists_key listed broker key ≡ true) [
      | Less ↦ λ is found. known_for listed broker key replicas es a.1 found there
      | Equal ↦ λ is found.
          let same : has e.1.replicas broker ≡ true = subst (λ (ids : List ℤ). has ids broker ≡ true) (sym (some_is e.1.replicas replicas found)) there in
          subst (λ (k : Key). lists_key listed broker k ≡ true) (sym (same_partition key e.0 is)) (a.0 same)
      | Greater ↦ λ is found. known_for listed broker key replicas es a.1 found there
    ] refl found

pub known_listed : (listed : Listed) (es : List Entry) (key : Key) (replicas : List ℤ) → Lists listed es → option_map (λ (p : Partition). p.replicas) (get partition_order es key) ≡ Some replicas → (broker : ℤ) → has replicas broker ≡ true → lists_key listed broker key ≡ true
known_listed listed es key replicas lists found broker there =
    known_for listed broker key replicas es (recursion_from_All (λ (e : Entry). has e.1.replicas broker ≡ true → lists_key listed broker e.0 ≡ true) es (lists broker)) found there

pub still_listed : (listed : Listed) → Grows listed listed
still_listed listed broker key there = there

pub ruleset listed = (known_listed, listed_for, still_listed)

-- ---- a key that is put among those of partitions that a replica stands by of

pub still_among : (keys : List Key) → KeepsKeys keys keys
still_among keys key there = there

pub put_among : (before after : List Key) (key : Key) → after ≡ insert_key partition_order before key → holds_key after key ≡ true
put_among before after key is = subst (λ (keys : List Key). holds_key keys key ≡ true) (sym is) (among_itself before key)

pub put_keeps : (before after : List Key) (key : Key) → after ≡ insert_key partition_order before key → KeepsKeys before after
put_keeps before after key is = subst (KeepsKeys before) (sym is) (more_keys before key)

pub same_keeps : (before after : List Key) → after ≡ before → KeepsKeys before after
same_keeps before after is = subst (KeepsKeys before) (sym is) (still_among before)

pub ruleset standing = (still_among, put_among, put_keeps, same_keeps)

-- ---- the index of a map

pub listed_none : (index : PartitionIndex) → IsIndexOf index []
listed_none index = record { replicas = lists_none index.listed; standing = least_none index.standing has_standing_by }

pub grows_itself : (index : PartitionIndex) → IndexGrows index index
grows_itself index = record { replicas = still_listed index.listed; standing = still_among index.standing }

pub grows_on : (before between after : PartitionIndex) → IndexGrows before between → IndexGrows between after → IndexGrows before after
grows_on before between after first then = record {
  replicas = λ broker key there. then.replicas broker key (first.replicas broker key there);
  standing = λ key there. then.standing key (first.standing key there);
}

pub index_more : (before after : PartitionIndex) (es : List Entry) → IndexGrows before after → IsIndexOf before es → IsIndexOf after es
index_more before after es grows is = record {
  replicas = lists_more before.listed after.listed es grows.replicas is.replicas;
  standing = least_more before.standing after.standing has_standing_by es grows.standing is.standing;
}

pub index_set : (index : PartitionIndex) (es : List Entry) (key : Key) (p : Partition) → HasKey index key p → IsIndexOf index es → IsIndexOf index (insert partition_order es key p)
index_set index es key p own is = record {
  replicas = lists_set index.listed es key p own.replicas is.replicas;
  standing = least_set index.standing has_standing_by es key p own.standing is.standing;
}

pub index_gone : (index : PartitionIndex) (es : List Entry) (key : Key) → IsIndexOf index es → IsIndexOf index (remove partition_order es key)
index_gone index es key is = record {
  replicas = lists_gone index.listed es key is.replicas;
  standing = least_gone index.standing has_standing_by es key is.standing;
}
