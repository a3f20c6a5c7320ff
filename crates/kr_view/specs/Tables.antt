-- What all seats were told last, in a table. This project's own.
use Rattle.std.specs.Prelude.{List, [], ◌∷◌, ◌++◌, Option, Some, None, slice_set, slice_index_or, replicate, fold, if◌then◌else◌}
use Rattle.kr_calls.specs.declared.events.Entry.{Entry}
use Rattle.kr_calls.specs.declared.events.Entry.TheVariants as entries
use Rattle.kr_calls.specs.declared.seat_entry.SeatEntry.{SeatEntry}
use Rattle.kr_calls.specs.declared.seat_entry.SeatEntry.TheVariants as told
use Rattle.kr_calls.specs.SeatList.{entry_seat, is_older}

-- what a seat is told takes the place of what isn't later
abbrev pub noted : List (Option SeatEntry) → SeatEntry → List (Option SeatEntry)
noted table a = if is_older a (slice_index_or table (entry_seat a) None) then table else slice_set table (entry_seat a) (Some a)

-- what the entry tells a seat, where it does
abbrev pub told_by : Entry → Option SeatEntry
told_by (entries.Item place item) = None
told_by (entries.Load offset records) = None
told_by (entries.Pin pin) = Some (told.Pin pin)
told_by (entries.Unpin pin) = Some (told.Unpin pin)
told_by (entries.Answer answer) = Some (told.Answer answer)
told_by (entries.Stop number) = None

abbrev pub noted_if : List (Option SeatEntry) → Option SeatEntry → List (Option SeatEntry)
noted_if table None = table
noted_if table (Some a) = noted table a

abbrev pub noted_with : List (Option SeatEntry) → Entry → List (Option SeatEntry)
noted_with table e = noted_if table (told_by e)

-- a place for each seat from 1 to 64, and one that is not used
abbrev pub nothing_told : List (Option SeatEntry)
nothing_told = replicate 65 None

abbrev pub table_of : List Entry → List (Option SeatEntry)
table_of list = fold noted_with nothing_told list

abbrev pub told_more : List SeatEntry → Option SeatEntry → List SeatEntry
told_more all None = all
told_more all (Some a) = all ++ a ∷ []

-- what the entries tell the seats
abbrev pub with_entry : List SeatEntry → Entry → List SeatEntry
with_entry all e = told_more all (told_by e)

abbrev pub told_among : List Entry → List SeatEntry
told_among list = fold with_entry [] list
