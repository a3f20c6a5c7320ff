-- An image's bytes, part after part: the head, and then batches.
use Rattle.std.specs.Prelude.{◌≡◌, ℕ, ◌+◌, ◌<◌, ◌≤◌, List, take, length, Option, Result, Ok, Err}
use Rattle.kr_snapshot.specs.declared.fault.ImageFault.{ImageFault}
use Rattle.kr_snapshot.specs.declared.fault.ImageFault.TheVariants as images
use Rattle.kr_batch.specs.declared.fault.BatchFault.{BatchFault}
use Rattle.kr_snapshot.specs.Reading.{Taken, size_at, so_far}
use Rattle.kr_snapshot.specs.ReaderState.{IsUnfinished}
use Rattle.kr_fold.specs.declared.fault.ToolFault.{ToolFault}
use Rattle.kr_fold.specs.declared.fault.ToolFault.TheVariants as faults
use Rattle.kr_fold.specs.SourceBytes.{TookUpTo}
use Rattle.kr_fold.specs.Endings.{largest, TookMore}
use Rattle.kr_fold.specs.Images.{HasBegun, BreaksAt}

-- a fault of the part at this place
abbrev pub fault_as : ImageFault → ℕ → ToolFault
fault_as images.NoMemory at = faults.NoMemory
fault_as other at = faults.Malformed at

-- a reader was fed what is read so far; or that is a fault, of the part at this place
abbrev pub IsFed : Result Taken ImageFault → Result Taken ImageFault → ℕ → Result (Unit {0}) ToolFault → Type 0
IsFed read reader at (Ok done) = (read ≡ reader) × (taken : Taken) × (read ≡ Ok taken)
IsFed read reader at (Err (faults.Malformed place)) = (place ≡ at) × (fault : ImageFault) × (read ≡ Err fault)
IsFed read reader at (Err faults.NoMemory) = Unit {0}
IsFed read reader at (Err other) = ⊥

-- a reader was fed the head and whole batches, which end at this place
pub record IsPart (bytes : List ℕ) (reader : Result Taken ImageFault) (at : ℕ) : Type 0 where
  pub within : at ≤ length bytes
  pub read : so_far (take at bytes) ≡ reader
  pub begun : HasBegun (take at bytes)

-- why no batch begins with the bytes: they tell a size that no batch has, or they are fewer than a batch
pub data IsNoBatch (bytes : List ℕ) : Type 0 where
  no_size : (fault : BatchFault) → 12 ≤ length bytes → size_at bytes ≡ Err fault → IsNoBatch bytes
  cut_off : 0 < length bytes → IsUnfinished bytes → IsNoBatch bytes

-- why bytes are no image
abbrev pub IsImageFault : List ℕ → ToolFault → Type 0
IsImageFault bytes (faults.Malformed at) = BreaksAt bytes at
IsImageFault bytes faults.NoMemory = Unit {0}
IsImageFault bytes other = ⊥

-- why an input isn't taken to its end: it has more bytes than an image may have, or a read failed, or memory ran out
abbrev pub IsLongInput : Option (List ℕ) → Option (List ℕ) → ToolFault → Type 0
IsLongInput left left' (faults.Malformed at) = (at ≡ largest) × TookMore left left'
IsLongInput left left' faults.ReadFault = TookUpTo largest left left'
IsLongInput left left' faults.NoMemory = TookUpTo (largest + 1) left left'
IsLongInput left left' other = ⊥
