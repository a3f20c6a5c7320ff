-- One committed list of batches, and a log that follows it up to a place: below that place the log is the list's, from the log's
-- own start on, and it starts from the list's image there.
use Rattle.std.specs.Prelude.{◌≡◌, ℕ, zero, suc, ◌+◌, ◌-◌, List, [], ◌∷◌, ◌++◌, length, Option, Some, None, Ok}
use Rattle.std.specs.List.{flat_map}
use Rattle.kr_batch.specs.declared.Batch.{Batch}
use Rattle.kr_defs.specs.declared.record.Item.{Item}
use Rattle.kr_defs.specs.Image.{empty}
use Rattle.kr_defs.specs.Log.{Log, apply_all}

abbrev pub list_items : List Batch → List Item
list_items list = flat_map (λ (b : Batch). b.items) list

-- the batch that begins at the place
abbrev pub batch_from : ℕ → List Batch → Option Batch
batch_from at [] = None
batch_from zero (b ∷ bs) = Some b
batch_from (suc at) (b ∷ bs) = batch_from (suc at - length b.items) bs

-- the part stands in the items from the place on
pub record StandsIn (items : List Item) (from : ℕ) (part : List Item) : Type 0 where
  pub front : List Item
  pub back : List Item
  pub at : from ≡ length front
  pub is : items ≡ front ++ (part ++ back)

pub record Follows (list : List Batch) (log : Log) (end : ℕ) : Type 0 where
  -- the batches below the end, and those from there on
  pub done : List Batch
  pub ahead : List Batch
  -- the items below the log's start, the log's own below the end, and those above
  pub before : List Item
  pub shared : List Item
  pub rest : List Item
  pub list_is : list ≡ done ++ ahead
  pub done_is : list_items done ≡ before ++ shared
  pub items_are : log.items ≡ shared ++ rest
  pub offset_is : log.offset ≡ length before
  pub end_is : end ≡ log.offset + length shared
  pub starts : apply_all empty before ≡ Ok log.image
