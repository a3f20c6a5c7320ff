-- The lines of a batch: one for each of its items, in order, with the version that the record's value tells.
use Rattle.std.specs.Prelude.{ℕ, ◌+◌, List, [], ◌∷◌, ◌++◌, drop, flat_map, Result, Ok, Err}
use Rattle.kr_defs.specs.declared.record.Item.{Item}
use Rattle.kr_wire.specs.declared.WireFault.{WireFault}
use Rattle.kr_wire.specs.Reading.{◌>>=◌, Read, uvarint_at}
use Rattle.kr_batch.specs.declared.Batch.{Batch}
use Rattle.kr_batch.specs.Grammar.{IsBatch}
use Rattle.kr_batch.specs.Reading.{frame_at}
use Rattle.kr_json.specs.declared.place.Place.{Place}
use Rattle.kr_json.specs.Lines.{record_line}

-- the frame version, the key and the version, with which a record's value begins
unfoldable pub value_version : List ℕ → Read ℕ
value_version value = do
  frame ← uvarint_at value
  key ← uvarint_at frame.1
  uvarint_at key.1

-- the version that the record at the front tells, and the bytes behind the record
unfoldable pub entry_version : List ℕ → Read ℕ
entry_version bytes = do
  frame ← frame_at bytes
  version ← value_version frame.0.1
  Ok (version.0, frame.1)

-- In a batch each record tells one; those of a control batch are any bytes, and their lines have no version.
abbrev pub told_or_none : Result (ℕ × List ℕ) WireFault → ℕ × List ℕ
told_or_none (Ok found) = found
told_or_none (Err fault) = (0, [])

abbrev pub place_in : Batch → ℕ → Place
place_in batch number = record { base = batch.base; number = number; epoch = batch.epoch; time = batch.time }

-- the items from this number on, whose records stand in the bytes
abbrev pub item_lines : Batch → ℕ → List Item → List ℕ → List ℕ
item_lines batch number [] bytes = []
item_lines batch number (item ∷ others) bytes =
    let version = told_or_none (entry_version bytes) in
    record_line (place_in batch number) version.0 item ++ item_lines batch (number + 1) others version.1

-- the fields before the records take 61 bytes
unfoldable pub batch_lines : Batch → List ℕ → List ℕ
batch_lines batch bytes = item_lines batch 0 batch.items (drop 61 bytes)

-- ---- batches

-- a batch, and its bytes
pub record Shown : Type 0 where
  pub batch : Batch
  pub bytes : List ℕ

abbrev pub AreShown : List Shown → Type 0
AreShown [] = Unit {0}
AreShown (s ∷ others) = IsBatch s.batch s.bytes × AreShown others

abbrev pub shown_bytes : List Shown → List ℕ
shown_bytes shown = flat_map (λ (s : Shown). s.bytes) shown

abbrev pub lines_of : List Shown → List ℕ
lines_of shown = flat_map (λ (s : Shown). batch_lines s.batch s.bytes) shown
