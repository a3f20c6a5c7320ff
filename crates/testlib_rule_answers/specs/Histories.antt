-- The epochs of a store, and what is said of a record (this project's own).
use Rattle.std.specs.Prelude.{◌≡◌, ℤ, List, map, Option, Some, None, Ok, Err}
use Rattle.std.specs.List.{AllByRecursion}
use Rattle.kr_defs.specs.declared.ill.Ill.{Ill}
use Rattle.kr_defs.specs.declared.record.Item.TheVariants as items
use Rattle.kr_defs.specs.declared.record.Record.{Record}
use Rattle.kr_defs.specs.Apply.{apply}
use Rattle.kr_defs.specs.Image.{Image}
use Rattle.kr_store.specs.Images.{Images}
use Rattle.kr_store.specs.declared.places.ApplyFault.{ApplyFault}
use Rattle.kr_store.specs.declared.places.ApplyFault.TheVariants as faults

-- these are the kept epochs, in order
abbrev pub AreEpochs : List (ℤ × Image) → List ℤ → Type 0
AreEpochs kept epochs = map (λ (k : ℤ × Image). k.0) kept ≡ epochs

-- no transaction is open, nor was at a kept epoch
pub record AreClosed (images : Images) : Type 0 where
  pub tip : images.begun ≡ None
  pub kept : AllByRecursion (λ (b : ℤ × Option ℤ). b.1 ≡ None) images.kept_begun

-- the record's image is the present one, or it has none for this cause and nothing has changed
abbrev pub Judged : Images → Images → Record → Option Ill → Type 0
Judged before after value None = (apply before.tip (items.Record value) ≡ Ok after.tip) × (after.kept ≡ before.kept)
Judged before after value (Some cause) = (apply before.tip (items.Record value) ≡ Err cause) × (after ≡ before)

-- why the record has no image
abbrev pub IsCause : ApplyFault → Option Ill → Type 0
IsCause (faults.IllFormed place found) cause = cause ≡ Some found
IsCause faults.NoMemory cause = ⊥
