-- What a client's seat has seen: a list of entries, with the state and the end of its log, the places that are kept, what each
-- seat was told, and the first stop. This project's own, but for the state, in which a transaction may be open (KIP-868).
use Rattle.std.specs.Prelude.{◌≡◌, ◌+ℤ◌, ℕ, ℤ, pos, int_lt, unsigned_abs, Bool, true, false, not, ◌&&◌, ◌==◌, nat_lt, List, [], ◌∷◌, ◌++◌, ◌||◌, Option, Some, None, Result, Ok, Err, fold, filter, map, if◌then◌else◌}
use Rattle.std.specs.List.{list_any}
use Rattle.std.specs.Ordering.{int_eq}
use Rattle.kr_base.specs.Causes.{raised}
use Rattle.kr_defs.specs.declared.ill.Ill.{Ill}
use Rattle.kr_defs.specs.declared.limits.TheConstants.{PLACES_END}
use Rattle.kr_defs.specs.declared.record.Item.{Item}
use Rattle.kr_defs.specs.declared.record.Record.{Record}
use Rattle.kr_defs.specs.Image.{Image, empty}
use Rattle.kr_defs.specs.LogStates.{LogState, apply_at, closed}
use Rattle.kr_calls.specs.declared.events.Entry.{Entry}
use Rattle.kr_calls.specs.declared.events.Entry.TheVariants as entries
use Rattle.kr_calls.specs.declared.pins.Pin.{Pin}
use Rattle.kr_calls.specs.declared.seat_entry.SeatEntry.{SeatEntry}
use Rattle.kr_calls.specs.declared.seat_entry.SeatEntry.TheVariants as told
use Rattle.kr_calls.specs.Deciding.{apply_records}

-- ---- the log

-- items one behind the other, of which the first stands at the place
abbrev pub item_entries : ℤ → List Item → List Entry
item_entries place [] = []
item_entries place (item ∷ items) = entries.Item place item ∷ item_entries (place +ℤ pos 1) items

-- the state, and the place of the next item
pub record Reached : Type 0 where
  pub state : LogState
  pub end : ℤ

abbrev pub nothing_reached : Reached
nothing_reached = record { state = closed empty; end = pos 0 }

-- what has no meaning changes nothing
abbrev pub with_outcome : Reached → ℤ → Result LogState Ill → Reached
with_outcome r end (Ok state) = record { state = state; end = end }
with_outcome r end (Err cause) = r

-- an item counts where it stands at the end
abbrev pub with_item : Reached → ℤ → Item → Reached
with_item r place item =
    if int_eq place r.end && int_lt place PLACES_END then with_outcome r (place +ℤ pos 1) (apply_at r.state (unsigned_abs place) item) else r

-- no transaction is open in an image in place of all
abbrev pub with_image : Reached → ℤ → Result Image Ill → Reached
with_image r end (Ok image) = record { state = closed image; end = end }
with_image r end (Err cause) = r

-- it counts where it isn't below the end
abbrev pub with_load : Reached → ℤ → List Record → Reached
with_load r offset records =
    if not (int_lt offset r.end) && int_lt offset PLACES_END then with_image r offset (apply_records empty records) else r

abbrev pub reached_with : Reached → Entry → Reached
reached_with r (entries.Item place item) = with_item r place item
reached_with r (entries.Load offset records) = with_load r offset records
reached_with r (entries.Pin pin) = r
reached_with r (entries.Unpin pin) = r
reached_with r (entries.Answer answer) = r
reached_with r (entries.Stop number) = r

-- whatever the entries are
abbrev pub reached : List Entry → Reached
reached list = fold reached_with nothing_reached list

abbrev pub image_of : List Entry → Image
image_of list = (reached list).state.image

abbrev pub end_of : List Entry → ℤ
end_of list = (reached list).end

-- no transaction is open at the end
abbrev pub IsClosedList : List Entry → Type 0
IsClosedList list = (reached list).state.opened ≡ None

-- items below the place, and images that stand not above it
abbrev pub is_below : ℤ → Entry → Bool
is_below place (entries.Item at item) = int_lt at place
is_below place (entries.Load offset records) = not (int_lt place offset)
is_below place (entries.Pin pin) = true
is_below place (entries.Unpin pin) = true
is_below place (entries.Answer answer) = true
is_below place (entries.Stop number) = true

-- the image of what stands below the place
abbrev pub image_below : ℤ → List Entry → Image
image_below place list = image_of (filter (is_below place) list)

-- ---- pins

-- of one seat, and of one place
abbrev pub is_same_pin : Pin → Pin → Bool
is_same_pin pin other = (pin.seat == other.seat) && int_eq pin.place other.place

abbrev pub is_pinned : List Pin → Pin → Bool
is_pinned pins pin = list_any (is_same_pin pin) pins

-- the log, and what is pinned of it, in the order of the places: each pin with the image that was at its place
pub record PinnedLog : Type 0 where
  pub at : Reached
  pub pinned : List (Pin × Image)

abbrev pub nothing_pinned : PinnedLog
nothing_pinned = record { at = nothing_reached; pinned = [] }

abbrev pub pins_in : List (Pin × Image) → List Pin
pins_in pinned = map (λ (p : Pin × Image). p.0) pinned

-- a pin counts where its place is the end, and adds nothing where it is there
abbrev pub is_new_pin : Reached → List (Pin × Image) → Pin → Bool
is_new_pin r pinned pin = int_eq pin.place r.end && not (is_pinned (pins_in pinned) pin)

abbrev pub with_pin : Reached → List (Pin × Image) → Pin → List (Pin × Image)
with_pin r pinned pin = if is_new_pin r pinned pin then pinned ++ (pin, r.state.image) ∷ [] else pinned

abbrev pub without_pin : List (Pin × Image) → Pin → List (Pin × Image)
without_pin pinned pin = filter (λ (p : Pin × Image). not (is_same_pin pin p.0)) pinned

-- an image in place of all takes all pins away
abbrev pub pins_with : Reached → List (Pin × Image) → Entry → List (Pin × Image)
pins_with r pinned (entries.Item place item) = pinned
pins_with r pinned (entries.Load offset records) = []
pins_with r pinned (entries.Pin pin) = with_pin r pinned pin
pins_with r pinned (entries.Unpin pin) = without_pin pinned pin
pins_with r pinned (entries.Answer answer) = pinned
pins_with r pinned (entries.Stop number) = pinned

abbrev pub pinned_with : PinnedLog → Entry → PinnedLog
pinned_with l e = record { at = reached_with l.at e; pinned = pins_with l.at l.pinned e }

abbrev pub pinned_log : List Entry → PinnedLog
pinned_log list = fold pinned_with nothing_pinned list

abbrev pub pins_of : List Entry → List Pin
pins_of list = pins_in (pinned_log list).pinned

-- the pins of one seat
abbrev pub pins_of_seat : ℕ → List Entry → List Pin
pins_of_seat seat list = filter (λ pin. pin.seat == seat) (pins_of list)

-- the kept places are the end and the pinned ones
abbrev pub is_place_kept : PinnedLog → ℤ → Bool
is_place_kept l place = int_eq place l.at.end || list_any (λ pin. int_eq pin.place place) (pins_in l.pinned)

abbrev pub is_kept_in : List Entry → ℤ → Bool
is_kept_in list place = is_place_kept (pinned_log list) place

abbrev pub lower : ℤ → Pin → ℤ
lower place pin = if int_lt pin.place place then pin.place else place

abbrev pub oldest_place : PinnedLog → ℤ
oldest_place l = fold lower l.at.end (pins_in l.pinned)

-- the oldest kept place
abbrev pub oldest_of : List Entry → ℤ
oldest_of list = oldest_place (pinned_log list)

-- an image in place of all
abbrev pub is_load : Entry → Bool
is_load (entries.Item place item) = false
is_load (entries.Load offset records) = true
is_load (entries.Pin pin) = false
is_load (entries.Unpin pin) = false
is_load (entries.Answer answer) = false
is_load (entries.Stop number) = false

abbrev pub loads_with : ℕ → Entry → ℕ
loads_with loads e = if is_load e then raised loads else loads

-- how many images in place of all there are; the number stands still at the greatest u64
abbrev pub loads_of : List Entry → ℕ
loads_of list = fold loads_with 0 list

-- ---- what seats are told, and stops

abbrev pub entry_seat : SeatEntry → ℕ
entry_seat (told.Answer answer) = answer.seat
entry_seat (told.Pin pin) = pin.seat
entry_seat (told.Unpin pin) = pin.seat

abbrev pub entry_ticket : SeatEntry → ℕ
entry_ticket (told.Answer answer) = answer.ticket
entry_ticket (told.Pin pin) = pin.ticket
entry_ticket (told.Unpin pin) = pin.ticket

-- as it stands in the list
abbrev pub entry_of : SeatEntry → Entry
entry_of (told.Answer answer) = entries.Answer answer
entry_of (told.Pin pin) = entries.Pin pin
entry_of (told.Unpin pin) = entries.Unpin pin

-- it has a smaller ticket than the one that is there
abbrev pub is_older : SeatEntry → Option SeatEntry → Bool
is_older a None = false
is_older a (Some b) = nat_lt (entry_ticket a) (entry_ticket b)

-- the later one of two of a seat: that with the greater ticket, and the second of equals
abbrev pub newer : Option SeatEntry → SeatEntry → Option SeatEntry
newer last a = if is_older a last then last else Some a

-- what is for the seat
abbrev pub newer_of : ℕ → Option SeatEntry → SeatEntry → Option SeatEntry
newer_of seat last a = if entry_seat a == seat then newer last a else last

abbrev pub last_with : ℕ → Option SeatEntry → Entry → Option SeatEntry
last_with seat last (entries.Item place item) = last
last_with seat last (entries.Load offset records) = last
last_with seat last (entries.Pin pin) = newer_of seat last (told.Pin pin)
last_with seat last (entries.Unpin pin) = newer_of seat last (told.Unpin pin)
last_with seat last (entries.Answer answer) = newer_of seat last (told.Answer answer)
last_with seat last (entries.Stop number) = last

-- the last of the answers, pins and unpins of a seat that have its greatest ticket
abbrev pub last_of : ℕ → List Entry → Option SeatEntry
last_of seat list = fold (last_with seat) None list

abbrev pub stop_with : Option ℕ → Entry → Option ℕ
stop_with (Some first) e = Some first
stop_with None (entries.Item place item) = None
stop_with None (entries.Load offset records) = None
stop_with None (entries.Pin pin) = None
stop_with None (entries.Unpin pin) = None
stop_with None (entries.Answer answer) = None
stop_with None (entries.Stop number) = Some number

-- the number of the first stop
abbrev pub stop_of : List Entry → Option ℕ
stop_of list = fold stop_with None list
