-- What a call answers that applies an item to a store.
use Rattle.std.specs.Prelude.{◌≡◌, ◌≤◌, ◌+◌, ◌⊎◌, ℕ, ℤ, if◌then◌else◌, is_some, Result, Ok, Err, Some}
use Rattle.std.specs.Option.{option_map_or}
use Rattle.kr_defs.specs.declared.record.Record.TheVariants as kinds
use Rattle.kr_defs.specs.declared.record.Item.{Item}
use Rattle.kr_defs.specs.declared.record.Item.TheVariants as items
use Rattle.kr_defs.specs.Apply.{apply}
use Rattle.kr_defs.specs.declared.ill.Ill.{Ill}
use Rattle.kr_defs.specs.LogStates.{LogState, apply_at}
use Rattle.kr_defs.specs.Weight.{weight}
use Rattle.kr_store.specs.declared.places.ApplyFault.{ApplyFault}
use Rattle.kr_store.specs.declared.places.ApplyFault.TheVariants as faults
use Rattle.kr_store.specs.Images.{Images, IsAbove, above, calls_of, kept_at, last_image, last_kept, last_begun, marked, log_place, tip_state}

-- ---- what is kept besides

-- the epoch is kept, if it wasn't yet
abbrev pub with_epoch : Images → ℤ → Images
with_epoch images epoch = if is_some (kept_at images epoch) then images else marked images epoch

-- the place of a begin is kept before it
abbrev pub with_begin : Images → ℤ → Item → Images
with_begin images place (items.Record (kinds.BeginTransaction name)) = with_epoch images place
with_begin images place item = images

-- above the kept epochs, or the last of them, of which the tip is the image
abbrev pub MayOpen : Images → ℤ → Type 0
MayOpen images place = IsAbove images.kept place ⊎ (last_kept images ≡ Some (place, images.tip))

-- a begin stands there
abbrev pub MayStand : Images → ℤ → Item → Type 0
MayStand images place (items.Record (kinds.BeginTransaction name)) = MayOpen images place
MayStand images place item = Unit {0}

-- the same epochs are kept
pub record KeepsEpochs (after before : Images) : Type 0 where
  pub images : after.kept ≡ before.kept
  pub calls : after.kept_made ≡ before.kept_made
  pub begun : after.kept_begun ≡ before.kept_begun

-- the present state is that of the last kept epoch
pub record FallsBack (before after : Images) : Type 0 where
  pub tip : last_image before ≡ Some after.tip
  pub begun : after.begun ≡ last_begun before
  pub made : after.made ≡ 0
  pub epochs : KeepsEpochs after before

-- ---- an item at a place of the log

-- there is no meaning, and nothing has changed; or the present state is that of the last kept epoch
abbrev pub FailsFor : Images → Images → ApplyFault → ℤ → Result LogState Ill → Type 0
FailsFor before after (faults.IllFormed there cause) place meaning = (meaning ≡ Err cause) × (there ≡ place) × (after ≡ before)
FailsFor before after faults.NoMemory place meaning = FallsBack before after

-- the present state is the meaning, and these epochs are kept
abbrev pub Becomes : Images → Images → Result (Unit {0}) ApplyFault → ℤ → Result LogState Ill → Images → Type 0
Becomes before after (Ok done) place meaning epochs = (meaning ≡ Ok (tip_state after)) × KeepsEpochs after epochs
Becomes before after (Err fault) place meaning epochs = FailsFor before after fault place meaning

-- the present state is what the item makes of the one before
abbrev pub AppliesAt : Images → Images → Result (Unit {0}) ApplyFault → ℤ → Item → Type 0
AppliesAt before after result place item =
    Becomes before after result place (apply_at (tip_state before) (log_place place) item) (with_begin before place item)

-- the calls of the open transaction
abbrev pub calls_to_undo : Images → ℕ
calls_to_undo images = option_map_or (λ (begin : ℤ). calls_of (above images begin) + images.made) images.begun 0

-- the calls that the item makes at most: a begin makes none, and an abort those of its transaction once more
abbrev pub calls_at : Images → Item → ℕ
calls_at images (items.Record (kinds.BeginTransaction name)) = 0
calls_at images (items.Record (kinds.AbortTransaction reason)) = calls_to_undo images
calls_at images item = weight images.tip item

-- the calls since the last kept epoch, the item's among them
abbrev pub made_at : Images → ℤ → Item → ℕ
made_at images place item = (with_begin images place item).made + calls_at images item

-- ---- a record on the image

-- the record has no image, and nothing has changed; or the present state is that of the last kept epoch
abbrev pub IsFault : Images → Images → ApplyFault → ℤ → Item → Type 0
IsFault before after (faults.IllFormed there cause) place item = (apply before.tip item ≡ Err cause) × (there ≡ place) × (after ≡ before)
IsFault before after faults.NoMemory place item = (last_image before ≡ Some after.tip) × (after.made ≡ 0) × (after.begun ≡ last_begun before)

-- the present image is what the record makes of the one before
abbrev pub Applies : Images → Images → Result (Unit {0}) ApplyFault → ℤ → Item → Type 0
Applies before after (Ok done) place item = apply before.tip item ≡ Ok after.tip
Applies before after (Err fault) place item = IsFault before after fault place item

abbrev pub TicksAtFault : ℕ → ℕ → ApplyFault → Type 0
TicksAtFault before after (faults.IllFormed there cause) = after ≡ before + 1
TicksAtFault before after faults.NoMemory = before + 1 ≤ after

-- one step, and after want of memory those of going back
abbrev pub Ticks : ℕ → ℕ → Result (Unit {0}) ApplyFault → Type 0
Ticks before after (Ok done) = after ≡ before + 1
Ticks before after (Err fault) = TicksAtFault before after fault
