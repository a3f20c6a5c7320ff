-- What bytes stand for an image (this project's own): its offset, how many records it has, and batches that hold them.
use Rattle.std.specs.Prelude.{◌≡◌, ℕ, ℤ, pos, ◌≤ℤ◌, ◌+◌, List, [], ◌∷◌, length, flat_map, Ok, IsTrue}
use Rattle.std.specs.Int.{w64}
use Rattle.kr_defs.specs.declared.record.Record.{Record}
use Rattle.kr_defs.specs.Image.{Image, empty}
use Rattle.kr_defs.specs.ImageLaws.{as_items}
use Rattle.kr_defs.specs.ImageOrder.{are_in_order, nothing_seen}
use Rattle.kr_defs.specs.Log.{apply_all}
use Rattle.kr_wire.specs.Grammar.{◌⌢◌, Exactly, IsSigned}
use Rattle.kr_batch.specs.declared.Batch.{Batch}
use Rattle.kr_batch.specs.Grammar.{IsBatch}

-- a batch of these records, with so many before them
pub record IsPart (before : ℕ) (records : List Record) (bytes : List ℕ) : Type 0 where
  pub batch : Batch
  pub base : batch.base ≡ pos before
  pub items : batch.items ≡ as_items records
  pub spelled : IsBatch batch bytes

-- one batch after the other
abbrev pub AreParts : ℕ → List (List Record) → List ℕ → Type 0
AreParts before [] = Exactly []
AreParts before (records ∷ others) = IsPart before records ⌢ AreParts (before + length records) others

-- the records of all batches
abbrev pub all_of : List (List Record) → List Record
all_of parts = flat_map (λ records. records) parts

-- each record is later than the one before it, and together they make the image out of the empty one
pub record Makes (records : List Record) (image : Image) : Type 0 where
  pub ordered : IsTrue (are_in_order nothing_seen records)
  pub applied : apply_all empty (as_items records) ≡ Ok image

pub record IsImage (offset : ℤ) (image : Image) (bytes : List ℕ) : Type 0 where
  pub parts : List (List Record)
  pub natural : pos 0 ≤ℤ offset
  pub makes : Makes (all_of parts) image
  pub spelled : (IsSigned w64 offset ⌢ IsSigned w64 (pos (length (all_of parts))) ⌢ AreParts 0 parts) bytes
