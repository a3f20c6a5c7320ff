-- What is true of lists of entries, whatever they are. This project's own.
use Rattle.std.specs.Prelude.{◌≡◌, ◌+◌, ◌≤ℤ◌, ℕ, ℤ, pos, Bool, true, false, List, ◌∷◌, ◌++◌, length, Ok, fold, IsTrue}
use Rattle.std.specs.List.{AllByRecursion}
use Rattle.kr_defs.specs.declared.limits.TheConstants.{PLACES_END}
use Rattle.kr_defs.specs.declared.record.Item.{Item}
use Rattle.kr_defs.specs.Image.{Image}
use Rattle.kr_defs.specs.LogStates.{LogState, apply_all_at}
use Rattle.kr_calls.specs.declared.events.Entry.{Entry}
use Rattle.kr_calls.specs.declared.events.Entry.TheVariants as entries
use Rattle.kr_calls.specs.declared.pins.Pin.{Pin}
use Rattle.kr_calls.specs.SeatList.{end_of, image_below, image_of, is_kept_in, is_load, is_pinned, is_same_pin, item_entries, pinned_log, pins_of, reached_with}

-- Items one behind the other from the end on, which all have a meaning and a place, all count: the state is what they make of it
-- one after the other, and the end is behind the last of them.
abbrev pub ItemsInOrderCount : Type 0
ItemsInOrderCount =
    (state after : LogState) (place : ℕ) (items : List Item) → apply_all_at state place items ≡ Ok after → pos (place + length items) ≤ℤ PLACES_END
    → fold reached_with (record { state = state; end = pos place }) (item_entries (pos place) items) ≡ record { state = after; end = pos (place + length items) }

-- ---- kept places

-- the image below the end is the image
abbrev pub EndImages : Type 0
EndImages = (list : List Entry) → image_below (end_of list) list ≡ image_of list

-- a pin's image is that below its place
abbrev pub PinImages : Type 0
PinImages = (list : List Entry) → AllByRecursion (λ (p : Pin × Image). image_below p.0.place list ≡ p.1) (pinned_log list).pinned

-- without an image in place of all the image at a kept place stays
abbrev pub KeptImagesStay : Type 0
KeptImagesStay =
    (list more : List Entry) (place : ℤ) → IsTrue (is_kept_in list place) → AllByRecursion (λ e. is_load e ≡ false) more
    → image_below place (list ++ more) ≡ image_below place list

-- an image in place of all, or this seat's unpin of the place
abbrev pub unpins : Pin → Entry → Bool
unpins pin (entries.Item place item) = false
unpins pin (entries.Load offset records) = true
unpins pin (entries.Pin other) = false
unpins pin (entries.Unpin other) = is_same_pin other pin
unpins pin (entries.Answer answer) = false
unpins pin (entries.Stop number) = false

-- a pin at the end stays until one of these comes
abbrev pub PinsStay : Type 0
PinsStay =
    (before rest : List Entry) (pin : Pin) → pin.place ≡ end_of before → AllByRecursion (λ e. unpins pin e ≡ false) rest
    → IsTrue (is_pinned (pins_of (before ++ entries.Pin pin ∷ rest)) pin) × IsTrue (is_kept_in (before ++ entries.Pin pin ∷ rest) pin.place)
