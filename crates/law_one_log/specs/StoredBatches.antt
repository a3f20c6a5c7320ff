-- What the store has of batches and images: bytes, and what links read of them.
use Rattle.std.specs.Prelude.{ℕ, pos, unsigned_abs, List, [], length, map, Result, Ok, Err}
use Rattle.std.specs.Result.{result_unwrap_or}
use Rattle.kr_batch.specs.declared.Batch.{Batch}
use Rattle.kr_batch.specs.BatchBytes.{batch_bytes}
use Rattle.kr_batch.specs.Reading.{batch_of}
use Rattle.kr_defs.specs.declared.ill.Ill.{Ill}
use Rattle.kr_defs.specs.Image.{Image, empty}
use Rattle.kr_defs.specs.Log.{apply_all}
use Rattle.kr_snapshot.specs.ImageText.{image_text}
use Rattle.kr_model.specs.World.{State, closed_of, image_of_closed}
use Rattle.law_nodes.specs.OneList.{list_items}
use Rattle.law_quorum.specs.Batches.{behind, StoredImage}
use Rattle.law_quorum.specs.Batches.{Batch as StoredBatch}

-- ---- batches

-- a batch that a controller appends
abbrev pub stored : Batch → StoredBatch
stored b = record { base = unsigned_abs b.base; count = length b.items; epoch = unsigned_abs b.epoch; bytes = batch_bytes b }

abbrev pub unreadable : Batch
unreadable = record { base = pos 0; epoch = pos 0; time = pos 0; items = [] }

-- as a controller reads it
abbrev pub value_of_batch : StoredBatch → Batch
value_of_batch b = result_unwrap_or (batch_of b.bytes) unreadable

abbrev pub batches_in : List StoredBatch → List Batch
batches_in batches = map (λ (b : StoredBatch). value_of_batch b) batches

-- ---- images

-- the one that a controller gives: of its closed end
abbrev pub stored_image : State → StoredImage
stored_image s = record { offset = closed_of s.world; bytes = image_text (pos (closed_of s.world)) (image_of_closed s) }

abbrev pub text_of_image : ℕ → Result Image Ill → List ℕ
text_of_image end (Ok image) = image_text (pos end) image
text_of_image end (Err cause) = []

-- The bytes of the image of batches from place 0 on: what they make of the empty image. Where they have no meaning there are none.
abbrev pub image_bytes : List StoredBatch → List ℕ
image_bytes batches = text_of_image (behind 0 batches) (apply_all empty (list_items (batches_in batches)))
