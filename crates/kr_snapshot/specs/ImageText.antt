-- The bytes that are written for an image (this project's own).
use Rattle.std.specs.Prelude.{ℕ, ℤ, pos, ◌+◌, List, [], ◌∷◌, ◌++◌, length, take, drop, zero, suc}
use Rattle.std.specs.Int.{w64}
use Rattle.kr_defs.specs.declared.limits.TheConstants.{IMAGE_BATCH}
use Rattle.kr_defs.specs.declared.record.Item.{Item}
use Rattle.kr_defs.specs.declared.record.Record.{Record}
use Rattle.kr_defs.specs.Image.{Image}
use Rattle.kr_defs.specs.ImageLaws.{as_items}
use Rattle.kr_defs.specs.Records.{records_of}
use Rattle.kr_wire.specs.Spelling.{signed}
use Rattle.kr_batch.specs.declared.Batch.{Batch}
use Rattle.kr_batch.specs.BatchBytes.{batch_bytes}

-- the first so many of a list, then the next so many, and in the end what is left; there are at most n of these chunks
abbrev pub chunks_within : {X : Type 0} → ℕ → ℕ → List X → List (List X)
chunks_within n most [] = []
chunks_within zero most (x ∷ xs) = []
chunks_within (suc n) most (x ∷ xs) = take most (x ∷ xs) ∷ chunks_within n most (drop most (x ∷ xs))

abbrev pub chunks : {X : Type 0} → ℕ → List X → List (List X)
chunks most xs = chunks_within (length xs) most xs

-- the batch of a group, with so many records before it
abbrev pub batch_of_group : ℕ → List Item → Batch
batch_of_group before group = record { base = pos before; epoch = pos 0; time = pos 0; items = group }

abbrev pub batches_bytes : ℕ → List (List Item) → List ℕ
batches_bytes before [] = []
batches_bytes before (group ∷ others) = batch_bytes (batch_of_group before group) ++ batches_bytes (before + length group) others

-- the offset, and how many records there are
abbrev pub image_head : ℤ → ℤ → List ℕ
image_head offset count = signed w64 offset ++ signed w64 count

-- the text of an image of so many records, as far as these first ones: behind the head 1,000 a batch
abbrev pub text_up_to : ℤ → ℤ → List Record → List ℕ
text_up_to offset count first = image_head offset count ++ batches_bytes 0 (chunks IMAGE_BATCH (as_items first))

-- all of an image's records, in their order
unfoldable pub image_text : ℤ → Image → List ℕ
image_text offset image = text_up_to offset (pos (length (records_of image))) (records_of image)
