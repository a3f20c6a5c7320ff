-- Batches of the store, and the record batches that they are read as.
use Rattle.std.proofs.Common.{◌≡◌, ◌∙◌, sym, ℕ, ℤ, pos, ◌+◌, List, [], ◌∷◌, ◌++◌, length, map, refl, ap, arith}
use Rattle.std.specs.Prelude.{unsigned_abs, Result, Ok}
use Rattle.std.specs.Result.{result_unwrap_or}
use Rattle.std.specs.List.{AllByRecursion}
use Rattle.std.proofs.lemmas.List.{length-append, map-append}
use Rattle.kr_batch.specs.declared.Batch.{Batch}
use Rattle.kr_batch.specs.declared.fault.BatchFault.{BatchFault}
use Rattle.kr_batch.specs.Reading.{batch_of}
use Rattle.law_quorum.specs.Batches.{Meet, behind}
use Rattle.law_quorum.specs.Batches.{Batch as StoredBatch}
use Rattle.law_nodes.specs.OneList.{list_items}
use Rattle.law_nodes.proofs.Lists.{HasItems, items_append}
use Rattle.law_one_log.specs.Daemons.{IsReadBatch}
use Rattle.law_one_log.specs.StoredBatches.{value_of_batch, batches_in, stored, unreadable}

-- its bytes are read, as what a link reads of it says
pub record IsStored (b : StoredBatch) : Type 0 where
  pub read : batch_of b.bytes ≡ Ok (value_of_batch b)
  pub base : (value_of_batch b).base ≡ pos b.base
  pub count : length (value_of_batch b).items ≡ b.count

abbrev pub AllStored : List StoredBatch → Type 0
AllStored bs = AllByRecursion IsStored bs

pub in_append : (xs ys : List StoredBatch) → batches_in (xs ++ ys) ≡ batches_in xs ++ batches_in ys
in_append xs ys = map-append (λ (b : StoredBatch). value_of_batch b) xs ys

pub items_in : (xs ys : List StoredBatch) → list_items (batches_in (xs ++ ys)) ≡ list_items (batches_in xs) ++ list_items (batches_in ys)
items_in xs ys = ap (λ (l : List Batch). list_items l) (in_append xs ys) ∙ items_append (batches_in xs) (batches_in ys)

-- a place is a number of items
pub behind_items : (from : ℕ) (bs : List StoredBatch) → AllStored bs → behind from bs ≡ from + length (list_items (batches_in bs))
behind_items from [] h = omega arith
behind_items from (b ∷ bs) h =
    let long : length ((value_of_batch b).items ++ list_items (batches_in bs)) ≡ length (value_of_batch b).items + length (list_items (batches_in bs)) = length-append (value_of_batch b).items (list_items (batches_in bs)) in
    let count = h.0.count in
    let rest = behind_items (from + b.count) bs h.1 in
    omega (arith, long, count, rest)

pub all_have : (from : ℕ) (bs : List StoredBatch) → AllStored bs → Meet from bs → AllByRecursion HasItems (batches_in bs)
all_have from [] h m = tt
all_have from (b ∷ bs) h m = ((let count = h.0.count in let some = m.1 in omega (arith, count, some)), all_have (from + b.count) bs h.1 m.2)

-- ---- what a controller writes

pub reads_as : (b : Batch) → IsReadBatch b → value_of_batch (stored b) ≡ b
reads_as b read = ap (λ (r : Result Batch BatchFault). result_unwrap_or r unreadable) read

pub all_read : (bs : List Batch) → AllByRecursion IsReadBatch bs → batches_in (map (λ (b : Batch). stored b) bs) ≡ bs
all_read [] h = refl
all_read (b ∷ bs) h =
    ap (λ (x : Batch). x ∷ batches_in (map (λ (y : Batch). stored y) bs)) (reads_as b h.0) ∙ ap (λ (l : List Batch). b ∷ l) (all_read bs h.1)

pub is_stored : (b : Batch) (tip : ℕ) → b.base ≡ pos tip → IsReadBatch b → IsStored (stored b)
is_stored b tip base read =
    let is = reads_as b read in record {
      read = read ∙ ap (λ (x : Batch). Ok x) (sym is);
      base = ap (λ (x : Batch). x.base) is ∙ (base ∙ ap (λ (z : ℤ). pos (unsigned_abs z)) (sym base));
      count = ap (λ (x : Batch). length x.items) is;
    }
