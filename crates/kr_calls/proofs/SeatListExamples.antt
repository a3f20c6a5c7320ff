-- What lists of entries say, by computation: an image, items out of place and without meaning, kept places, what a seat is
-- told, a stop.
use Rattle.std.specs.Prelude.{◌≡◌, ℕ, ℤ, pos, negsuc, true, false, List, [], ◌∷◌, ◌++◌, Some, None, codes}
use Rattle.std.proofs.Common.{refl}
use Rattle.kr_defs.specs.declared.record.Item.TheVariants as items
use Rattle.kr_defs.specs.declared.record.Record.{Record}
use Rattle.kr_defs.specs.declared.record.Record.TheVariants as kinds
use Rattle.kr_defs.specs.Apply.{apply, apply_record}
use Rattle.kr_defs.specs.Image.{Image, empty}
use Rattle.kr_defs.specs.LogStates.{apply_at, closed}
use Rattle.kr_calls.specs.declared.answers.Answer.{Answer}
use Rattle.kr_calls.specs.declared.answers.AnswerKind.TheVariants as answer_kinds
use Rattle.kr_calls.specs.declared.events.Entry.{Entry}
use Rattle.kr_calls.specs.declared.events.Entry.TheVariants as entries
use Rattle.kr_calls.specs.declared.pins.Pin.{Pin}
use Rattle.kr_calls.specs.declared.seat_entry.SeatEntry.TheVariants as told
use Rattle.kr_calls.specs.SeatList.{Reached, image_below, is_kept_in, last_of, loads_of, nothing_reached, oldest_of, pins_of, reached, stop_of}

-- ---- the log

abbrev level : ℤ → Record
level n = kinds.FeatureLevel (codes "f") n

abbrev levels : ℤ → Image
levels n = record empty { features = (codes "f", n) ∷ [] }

abbrev item : ℤ → ℤ → Entry
item place n = entries.Item place (items.Record (level n))

abbrev at : ℤ → ℤ → Reached
at end n = record { state = closed (levels n); end = end }

nothing : reached [] ≡ nothing_reached
nothing = refl

-- an item and a control item
in_order : reached (item (pos 0) (pos 7) ∷ entries.Item (pos 1) items.Control ∷ []) ≡ at (pos 2) (pos 7)
unfolding apply apply_at apply_record
in_order = refl

above_the_end : reached (item (pos 0) (pos 7) ∷ item (pos 2) (pos 8) ∷ []) ≡ at (pos 1) (pos 7)
unfolding apply apply_at apply_record
above_the_end = refl

below_the_end : reached (item (pos 0) (pos 7) ∷ item (pos 0) (pos 8) ∷ []) ≡ at (pos 1) (pos 7)
unfolding apply apply_at apply_record
below_the_end = refl

-- a level is no negative number
without_meaning : reached (item (pos 0) (pos 7) ∷ item (pos 1) (negsuc 0) ∷ item (pos 1) (pos 9) ∷ []) ≡ at (pos 2) (pos 9)
unfolding apply apply_at apply_record
without_meaning = refl

-- an image takes the place of all that was before; the next item stands at its offset
load : reached (item (pos 0) (pos 7) ∷ entries.Load (pos 5) (level (pos 8) ∷ []) ∷ item (pos 5) (pos 9) ∷ []) ≡ at (pos 6) (pos 9)
unfolding apply apply_at apply_record
load = refl

load_at_the_end : reached (item (pos 0) (pos 7) ∷ entries.Load (pos 1) [] ∷ []) ≡ record { state = closed empty; end = pos 1 }
unfolding apply apply_at apply_record
load_at_the_end = refl

load_below_the_end : reached (item (pos 0) (pos 7) ∷ item (pos 1) (pos 8) ∷ entries.Load (pos 1) [] ∷ []) ≡ at (pos 2) (pos 8)
unfolding apply apply_at apply_record
load_below_the_end = refl

load_without_meaning : reached (item (pos 0) (pos 7) ∷ entries.Load (pos 1) (level (negsuc 0) ∷ []) ∷ []) ≡ at (pos 1) (pos 7)
unfolding apply apply_at apply_record
load_without_meaning = refl

-- ---- transactions (KIP-868)

abbrev marker : ℤ → Record → Entry
marker place kind = entries.Item place (items.Record kind)

-- a level before a transaction, and one inside it
abbrev inside : List Entry
inside = item (pos 0) (pos 7) ∷ marker (pos 1) (kinds.BeginTransaction None) ∷ item (pos 2) (pos 8) ∷ []

open_inside : reached inside ≡ record { state = record { image = levels (pos 8); opened = Some (record { place = 1; image = levels (pos 7) }) }; end = pos 3 }
unfolding apply apply_at apply_record
open_inside = refl

-- an end keeps what was made inside, an abort gives it up
ended : reached (inside ++ marker (pos 3) kinds.EndTransaction ∷ []) ≡ at (pos 4) (pos 8)
unfolding apply apply_at apply_record
ended = refl

aborted : reached (inside ++ marker (pos 3) (kinds.AbortTransaction None) ∷ []) ≡ at (pos 4) (pos 7)
unfolding apply apply_at apply_record
aborted = refl

-- a second begin has no meaning; nor has an end where none is open
begun_twice : reached (inside ++ marker (pos 3) (kinds.BeginTransaction None) ∷ []) ≡ reached inside
unfolding apply apply_at apply_record
begun_twice = refl

never_begun : reached (item (pos 0) (pos 7) ∷ marker (pos 1) kinds.EndTransaction ∷ []) ≡ at (pos 1) (pos 7)
unfolding apply apply_at apply_record
never_begun = refl

-- nothing is open in an image in place of all
load_closes : reached (inside ++ entries.Load (pos 3) (level (pos 9) ∷ []) ∷ []) ≡ at (pos 3) (pos 9)
unfolding apply apply_at apply_record
load_closes = refl

-- the image below a place inside is the one inside
below_inside : image_below (pos 3) (inside ++ marker (pos 3) (kinds.AbortTransaction None) ∷ []) ≡ levels (pos 8)
unfolding apply apply_at apply_record
below_inside = refl

-- no place is 2^62 or above
too_far : reached (entries.Load (pos 4611686018427387904) [] ∷ []) ≡ nothing_reached
too_far = refl

-- below the item at 6 stand the image at 5 and the item there
below : image_below (pos 6) (item (pos 0) (pos 7) ∷ entries.Load (pos 5) [] ∷ item (pos 5) (pos 8) ∷ item (pos 6) (pos 9) ∷ []) ≡ levels (pos 8)
unfolding apply apply_at apply_record
below = refl

below_its_first : image_below (pos 5) (entries.Load (pos 5) (level (pos 7) ∷ []) ∷ item (pos 5) (pos 8) ∷ []) ≡ levels (pos 7)
unfolding apply_record
below_its_first = refl

below_the_image : image_below (pos 4) (item (pos 0) (pos 7) ∷ entries.Load (pos 5) [] ∷ []) ≡ levels (pos 7)
unfolding apply apply_at apply_record
below_the_image = refl

-- ---- pins

abbrev pin : ℕ → ℕ → ℤ → Pin
pin seat ticket place = record { seat = seat; ticket = ticket; place = place }

-- seats 1 and 2 keep the place 1, with its image, and seat 1 gives it back
abbrev two_pins : List Entry
two_pins = item (pos 0) (pos 7) ∷ entries.Pin (pin 1 3 (pos 1)) ∷ entries.Pin (pin 2 1 (pos 1)) ∷ item (pos 1) (pos 8) ∷ []

abbrev unpinned : ℕ → ℤ → Entry
unpinned seat place = entries.Unpin (pin seat 9 place)

both_keep : pins_of two_pins ≡ pin 1 3 (pos 1) ∷ pin 2 1 (pos 1) ∷ []
unfolding apply apply_at apply_record
both_keep = refl

kept_image : image_below (pos 1) two_pins ≡ levels (pos 7)
unfolding apply apply_at apply_record
kept_image = refl

oldest : oldest_of two_pins ≡ pos 1
unfolding apply apply_at apply_record
oldest = refl

between : is_kept_in (two_pins ++ item (pos 2) (pos 9) ∷ []) (pos 2) ≡ false
unfolding apply apply_at apply_record
between = refl

end_is_kept : is_kept_in two_pins (pos 2) ≡ true
unfolding apply apply_at apply_record
end_is_kept = refl

-- the place stays while one seat keeps it
one_gives_back : pins_of (two_pins ++ unpinned 1 (pos 1) ∷ []) ≡ pin 2 1 (pos 1) ∷ []
unfolding apply apply_at apply_record
one_gives_back = refl

both_give_back : oldest_of (two_pins ++ unpinned 1 (pos 1) ∷ unpinned 2 (pos 1) ∷ []) ≡ pos 2
unfolding apply apply_at apply_record
both_give_back = refl

another_place : pins_of (two_pins ++ unpinned 1 (pos 2) ∷ []) ≡ pins_of two_pins
unfolding apply apply_at apply_record
another_place = refl

-- a pin that is there adds nothing, nor one that isn't at the end
pinned_twice : pins_of (entries.Pin (pin 1 3 (pos 0)) ∷ entries.Pin (pin 1 4 (pos 0)) ∷ []) ≡ pin 1 3 (pos 0) ∷ []
pinned_twice = refl

not_at_the_end : pins_of (item (pos 0) (pos 7) ∷ entries.Pin (pin 1 3 (pos 0)) ∷ []) ≡ []
unfolding apply apply_at apply_record
not_at_the_end = refl

load_unpins : pins_of (two_pins ++ entries.Load (pos 5) [] ∷ []) ≡ []
unfolding apply apply_at apply_record
load_unpins = refl

loads : loads_of (item (pos 0) (pos 7) ∷ entries.Load (pos 5) [] ∷ unpinned 1 (pos 0) ∷ entries.Load (pos 5) [] ∷ []) ≡ 2
loads = refl

-- ---- what seats are told, and stops

abbrev answer : ℕ → ℕ → ℤ → Answer
answer seat ticket place = record { seat = seat; ticket = ticket; place = place; kind = answer_kinds.Ahead; answered = None }

-- they leave the log as it is
beside_the_log : reached (item (pos 0) (pos 7) ∷ entries.Answer (answer 1 3 (pos 9)) ∷ entries.Stop 4 ∷ item (pos 1) (pos 8) ∷ []) ≡ at (pos 2) (pos 8)
unfolding apply apply_at apply_record
beside_the_log = refl

unanswered : last_of 1 (entries.Answer (answer 2 3 (pos 0)) ∷ item (pos 0) (pos 7) ∷ []) ≡ None
unanswered = refl

-- of two answers of one ticket the second is the last
one_ticket_twice : last_of 1 (entries.Answer (answer 1 3 (pos 0)) ∷ entries.Answer (answer 1 3 (pos 9)) ∷ []) ≡ Some (told.Answer (answer 1 3 (pos 9)))
one_ticket_twice = refl

-- one of a smaller ticket isn't, nor one of another seat
smaller_ticket : last_of 1 (entries.Answer (answer 1 3 (pos 0)) ∷ entries.Answer (answer 1 2 (pos 9)) ∷ entries.Answer (answer 2 8 (pos 9)) ∷ []) ≡ Some (told.Answer (answer 1 3 (pos 0)))
smaller_ticket = refl

greater_ticket : last_of 1 (entries.Answer (answer 1 3 (pos 0)) ∷ entries.Answer (answer 1 4 (pos 9)) ∷ []) ≡ Some (told.Answer (answer 1 4 (pos 9)))
greater_ticket = refl

-- pins and unpins have tickets as answers have
pinned_last : last_of 1 (entries.Answer (answer 1 3 (pos 0)) ∷ entries.Pin (pin 1 4 (pos 0)) ∷ entries.Unpin (pin 2 5 (pos 0)) ∷ []) ≡ Some (told.Pin (pin 1 4 (pos 0)))
pinned_last = refl

unpinned_last : last_of 2 (entries.Unpin (pin 2 5 (pos 0)) ∷ entries.Answer (answer 2 3 (pos 0)) ∷ []) ≡ Some (told.Unpin (pin 2 5 (pos 0)))
unpinned_last = refl

no_stop : stop_of (item (pos 0) (pos 7) ∷ entries.Answer (answer 1 3 (pos 0)) ∷ []) ≡ None
no_stop = refl

-- the first stop counts
two_stops : stop_of (item (pos 0) (pos 7) ∷ entries.Stop 4 ∷ entries.Stop 2 ∷ []) ≡ Some 4
two_stops = refl
