-- What a publish shows of what is staged. This project's own.
use Rattle.std.specs.Prelude.{ℤ, Bool, true, false, List, [], ◌∷◌, if◌then◌else◌}
use Rattle.kr_defs.specs.declared.record.Item.{Item}
use Rattle.kr_defs.specs.declared.record.Item.TheVariants as items
use Rattle.kr_defs.specs.declared.record.Record.{Record}
use Rattle.kr_defs.specs.declared.record.Record.TheVariants as kinds
use Rattle.kr_calls.specs.declared.events.Entry.{Entry}
use Rattle.kr_calls.specs.declared.events.Entry.TheVariants as entries
use Rattle.kr_calls.specs.SeatList.{is_below}

-- the entries up to the first that is not below the end
abbrev pub staged_below : ℤ → List Entry → List Entry
staged_below end [] = []
staged_below end (e ∷ es) = if is_below end e then e ∷ staged_below end es else []

-- and the others
abbrev pub staged_above : ℤ → List Entry → List Entry
staged_above end [] = []
staged_above end (e ∷ es) = if is_below end e then staged_above end es else e ∷ es

-- it is of the log: an item, or an image in place of all
abbrev pub is_logged : Entry → Bool
is_logged (entries.Item place item) = true
is_logged (entries.Load offset records) = true
is_logged (entries.Pin pin) = false
is_logged (entries.Unpin pin) = false
is_logged (entries.Answer answer) = false
is_logged (entries.Stop number) = false

-- KIP-868: a transaction begins
abbrev pub is_begin_record : Record → Bool
is_begin_record (kinds.BeginTransaction name) = true
is_begin_record other = false

abbrev pub is_begin_item : Item → Bool
is_begin_item (items.Record r) = is_begin_record r
is_begin_item items.Control = false

abbrev pub is_begin : Entry → Bool
is_begin (entries.Item place item) = is_begin_item item
is_begin (entries.Load offset records) = false
is_begin (entries.Pin pin) = false
is_begin (entries.Unpin pin) = false
is_begin (entries.Answer answer) = false
is_begin (entries.Stop number) = false
