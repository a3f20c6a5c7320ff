-- KIP-631: the metadata log, and the state and the image at a place of it (KIP-868: with the transaction that is open there).
use Rattle.std.specs.Prelude.{◌≡◌, ◌<◌, ◌≤◌, ℕ, ◌+◌, ◌-◌, ℤ, pos, ◌+ℤ◌, List, [], ◌∷◌, ◌++◌, length, take, unwrap_or, Option, Some, None, Result, Ok, Err, IsOk}
use Rattle.kr_defs.specs.declared.record.Item.{Item}
use Rattle.kr_defs.specs.declared.ill.Ill.{Ill}
use Rattle.kr_defs.specs.Guard.{and_then}
use Rattle.kr_defs.specs.Image.{Image, empty}
use Rattle.kr_defs.specs.Apply.{apply}
use Rattle.kr_defs.specs.LogStates.{Opened, LogState, apply_all_at, closed, open_behind_all}

-- the image that a log starts from, the place of its first item, and the items
pub record Log : Type 0 where
  pub offset : ℕ
  pub image : Image
  pub items : List Item

-- the log of a new cluster
abbrev pub first : Log
first = record { offset = 0; image = empty; items = [] }

-- one place above the last item
abbrev pub tip : Log → ℕ
tip log = log.offset + length log.items

-- the image after items of no transaction, one after the other
abbrev pub apply_all : Image → List Item → Result Image Ill
apply_all image [] = Ok image
apply_all image (item ∷ items) = and_then (apply image item) (λ after. apply_all after items)

-- the state of the items below the place. No transaction is open in the image that a log starts from
unfoldable pub state_at : Log → ℕ → Result LogState Ill
state_at log place = apply_all_at (closed log.image) log.offset (take (place - log.offset) log.items)

-- the image of that state
abbrev pub state_image : Result LogState Ill → Result Image Ill
state_image state = and_then state (λ s. Ok s.image)

unfoldable pub image_at : Log → ℕ → Result Image Ill
image_at log place = state_image (state_at log place)

-- the place of the transaction that is open at this one
unfoldable pub open_at : Log → ℕ → Option ℕ
open_at log place = open_behind_all None log.offset (take (place - log.offset) log.items)

-- the closed end at a place: that of the open transaction, or the place itself where none is open
abbrev pub closed_end_at : Log → ℕ → ℕ
closed_end_at log place = unwrap_or (open_at log place) place

-- the transaction that is open at the end began in the log, on the image below its place, and none was open there
pub record StandsOpen (log : Log) (end : ℕ) (opened : Opened) : Type 0 where
  pub above : log.offset ≤ opened.place
  pub below : opened.place < end
  pub there : state_at log opened.place ≡ Ok (closed opened.image)

-- the log with one item more
abbrev pub more : Log → Item → Log
more log item = record log { items = log.items ++ item ∷ [] }

-- what comes of an answer, or the place and the cause of the fault
abbrev pub ill_or : ℤ → Result Image Ill → (Image → Option (ℤ × Ill)) → Option (ℤ × Ill)
ill_or place (Ok image) next = next image
ill_or place (Err cause) next = Some (place, cause)

-- the place and the cause of the first item that has no meaning for an image, where the first of all has this place
abbrev pub first_ill : Image → ℤ → List Item → Option (ℤ × Ill)
first_ill image place [] = None
first_ill image place (item ∷ items) = ill_or place (apply image item) (λ after. first_ill after (place +ℤ pos 1) items)

-- so many items before this place all have a meaning
abbrev pub IsBehindGood : Image → ℤ → List Item → ℤ × Ill → Type 0
IsBehindGood image place items ill =
    (n : ℕ) × (n < length items) × (ill.0 ≡ place +ℤ pos n) × IsOk (apply_all image (take n items))
