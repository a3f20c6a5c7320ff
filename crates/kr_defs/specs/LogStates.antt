-- KIP-868: metadata transactions. A transaction is a run of records between BeginTransactionRecord and EndTransactionRecord or
-- AbortTransactionRecord. That the log's state says which one is open, and the cause of a misplaced one, are this project's own.
use Rattle.std.specs.Prelude.{◌≡◌, ◌<◌, ℕ, ℤ, pos, ◌+◌, List, [], ◌∷◌, ◌++◌, length, take, is_some, unwrap_or, Option, Some, None, Result, Ok, Err, IsOk}
use Rattle.std.specs.Option.{option_map_or}
use Rattle.kr_defs.specs.declared.record.Record.{Record}
use Rattle.kr_defs.specs.declared.record.Record.TheVariants as kinds
use Rattle.kr_defs.specs.declared.record.Item.{Item}
use Rattle.kr_defs.specs.declared.record.Item.TheVariants as items
use Rattle.kr_defs.specs.declared.ill.Ill.{Ill}
use Rattle.kr_defs.specs.declared.ill.Ill.TheVariants.{BadTransaction}
use Rattle.kr_defs.specs.Guard.{refuse◌when◌else◌, found, and_then}
use Rattle.kr_defs.specs.Image.{Image, IsValid}
use Rattle.kr_defs.specs.Apply.{apply}

-- an open transaction: the place of its begin, and the image below it
pub record Opened : Type 0 where
  pub place : ℕ
  pub image : Image

-- what a log comes to at a place: the image, and the transaction that is open there
pub record LogState : Type 0 where
  pub image : Image
  pub opened : Option Opened

-- no transaction is open
abbrev pub closed : Image → LogState
closed image = record { image = image; opened = None }

-- ---- what an item makes of a state

abbrev pub begin_at : LogState → ℕ → Result LogState Ill
begin_at state place =
    refuse BadTransaction when is_some state.opened else
    Ok (record state { opened = Some (record { place = place; image = state.image }) })

abbrev pub end_open : LogState → Result LogState Ill
end_open state = found BadTransaction state.opened (λ opened. Ok (closed state.image))

abbrev pub abort_open : LogState → Result LogState Ill
abort_open state = found BadTransaction state.opened (λ opened. Ok (closed opened.image))

-- any other item changes the image alone
abbrev pub image_after : LogState → Item → Result LogState Ill
image_after state item = and_then (apply state.image item) (λ after. Ok (record state { image = after }))

unfoldable pub apply_at : LogState → ℕ → Item → Result LogState Ill
apply_at state place (items.Record (kinds.BeginTransaction name)) = begin_at state place
apply_at state place (items.Record kinds.EndTransaction) = end_open state
apply_at state place (items.Record (kinds.AbortTransaction reason)) = abort_open state
apply_at state place item = image_after state item

-- ---- items, one after the other

-- the state after the items, the first of which has this place
abbrev pub apply_all_at : LogState → ℕ → List Item → Result LogState Ill
apply_all_at state place [] = Ok state
apply_all_at state place (item ∷ items) = and_then (apply_at state place item) (λ after. apply_all_at after (place + 1) items)

-- a whole transaction, with these items inside and a record that closes it
abbrev pub transaction : Option (List ℕ) → List Item → Record → List Item
transaction name inner last = items.Record (kinds.BeginTransaction name) ∷ inner ++ items.Record last ∷ []

-- the end of what is settled, below an end with this state: the place of the open transaction, or the end where none is open
abbrev pub closed_end : LogState → ℕ → ℕ
closed_end state end = option_map_or (λ opened. opened.place) state.opened end

-- ---- the open transaction, told by the items alone

-- the place of the open transaction behind an item: what has no meaning there changes nothing
abbrev pub open_behind : Option ℕ → ℕ → Item → Option ℕ
open_behind opened place (items.Record (kinds.BeginTransaction name)) = Some (unwrap_or opened place)
open_behind opened place (items.Record kinds.EndTransaction) = None
open_behind opened place (items.Record (kinds.AbortTransaction reason)) = None
open_behind opened place item = opened

-- behind items, the first of which has this place
abbrev pub open_behind_all : Option ℕ → ℕ → List Item → Option ℕ
open_behind_all opened place [] = opened
open_behind_all opened place (item ∷ items) = open_behind_all (open_behind opened place item) (place + 1) items

-- ---- the first item without a meaning

-- what comes of an answer, or the place and the cause of the fault
abbrev pub ill_at_or : ℕ → Result LogState Ill → (LogState → Option (ℤ × Ill)) → Option (ℤ × Ill)
ill_at_or place (Ok state) next = next state
ill_at_or place (Err cause) next = Some (pos place, cause)

-- the place and the cause of the first item that has no meaning, where the first of all has this place
abbrev pub first_ill_at : LogState → ℕ → List Item → Option (ℤ × Ill)
first_ill_at state place [] = None
first_ill_at state place (item ∷ items) = ill_at_or place (apply_at state place item) (λ after. first_ill_at after (place + 1) items)

-- so many items before this place all have a meaning
abbrev pub IsBehindGoodAt : LogState → ℕ → List Item → ℤ × Ill → Type 0
IsBehindGoodAt state place items ill =
    (n : ℕ) × (n < length items) × (ill.0 ≡ pos (place + n)) × IsOk (apply_all_at state place (take n items))

-- ---- valid states

-- both images of a state are valid
pub record IsValidState (state : LogState) : Type 0 where
  pub image : IsValid state.image
  pub below : (opened : Opened) → state.opened ≡ Some opened → IsValid opened.image
