-- Placements of several partitions, and how many there are.
use Rattle.std.proofs.Common.{◌≡◌, ◌∙◌, ◌<◌, ◌+◌, ◌-◌, ℕ, suc, ℤ, pos, List, [], ◌∷◌, ◌++◌, length, get_or, drop, map, unsigned_abs, sym, ap, append_assoc, arith}
use Rattle.std.specs.List.{range_with_len}
use Rattle.std.proofs.lemmas.List.{append-nil, length-map}
use Rattle.std.proofs.lemmas.List.FromFn.{length-map-range_with_len}
use Rattle.kr_defs.specs.declared.record.Record.{Record}
use Rattle.kr_defs.specs.declared.record.Record.TheVariants as kinds
use Rattle.kr_defs.specs.Brokers.{active}
use Rattle.kr_defs.specs.Ids.{within}
use Rattle.kr_defs.specs.Image.{Image}
use Rattle.kr_defs.specs.NewPartition.{new_partition}
use Rattle.kr_calls.specs.declared.create_partitions.CreatePartitionsAssignment.{CreatePartitionsAssignment}
use Rattle.kr_calls.specs.NewPartitions.{new_partitions}
use Rattle.kr_place.specs.Placing.{Grouped, placed_in}
use Rattle.kr_rules.proofs.SingleEntries.{here_of}
use Rattle.kr_topics.specs.inner.EntryRules.{placements_on}

pub range_step : (i end : ℕ) → i < end → range_with_len i (end - i) ≡ i ∷ range_with_len (i + 1) (end - (i + 1))
range_step i end lt = let e : end - i ≡ suc (end - (i + 1)) = omega arith in ap (range_with_len i) e

module _ {X : Type 0} (at : ℕ → X) (i end : ℕ) where
  -- one index more
  pub index_more : i < end → (so_far new : List X) → new ≡ so_far ++ at i ∷ [] → (all : List X) → so_far ++ map at (range_with_len i (end - i)) ≡ all → new ++ map at (range_with_len (i + 1) (end - (i + 1))) ≡ all
  index_more lt so_far new is all told =
      rw is (append_assoc so_far (at i ∷ []) (map at (range_with_len (i + 1) (end - (i + 1)))) ∙ ap (λ ks. so_far ++ map at ks) (sym (range_step i end lt)) ∙ told)

  -- the last index is behind
  pub index_over : i ≡ end → (so_far all : List X) → so_far ++ map at (range_with_len i (end - i)) ≡ all → so_far ≡ all
  index_over is so_far all told = let none : end - i ≡ 0 = omega arith in sym (append-nil so_far) ∙ ap (λ n. so_far ++ map at (range_with_len i n)) (sym none) ∙ told

-- no index is behind
pub index_begin : {X : Type 0} (at : ℕ → X) (first count : ℕ) (none : List X) → none ≡ [] → none ++ map at (range_with_len first (first + count - first)) ≡ map at (range_with_len first count)
index_begin at first count none is = let all : first + count - first ≡ count = omega arith in rw is (ap (λ n. map at (range_with_len first n)) all)

pub placements_count : (those : Grouped) (place : ℤ) (first count factor : ℕ) → length (placements_on those place first count factor) ≡ count
placements_count those place first count factor = length-map-range_with_len (λ index. placed_in those (unsigned_abs place + index) factor) first count

pub assigned_count : (assignments : List CreatePartitionsAssignment) → length (map (λ (a : CreatePartitionsAssignment). a.brokers) assignments) ≡ length assignments
assigned_count assignments = length-map assignments (λ (a : CreatePartitionsAssignment). a.brokers)

pub ruleset counts = (placements_count, assigned_count)

add_one : (n : ℕ) → n + 1 ≡ suc n
add_one n = omega arith

-- one partition more
pub partition_more : (image : Image) (id number : ℕ) (lists : List (List ℤ)) (i : ℕ) (replicas : List ℤ) → i < length lists → replicas ≡ get_or lists i replicas → (so_far new : List Record) → new ≡ so_far ++ kinds.Partition (pos number) id (new_partition replicas (within replicas (active image))) ∷ [] → (all : List Record) → so_far ++ new_partitions image id number (drop i lists) ≡ all → new ++ new_partitions image id (number + 1) (drop (i + 1) lists) ≡ all
partition_more image id number lists i replicas lt here so_far new is all told =
    let this : Record = kinds.Partition (pos number) id (new_partition replicas (within replicas (active image))) in
    rw is (append_assoc so_far (this ∷ []) (new_partitions image id (number + 1) (drop (i + 1) lists)) ∙ ap (λ rs. so_far ++ rs) (ap (λ n. this ∷ new_partitions image id n (drop (i + 1) lists)) (add_one number) ∙ ap (new_partitions image id number) (sym (here_of lists i replicas lt here))) ∙ told)
