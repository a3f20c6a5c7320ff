-- What goes from the back of a list of entries with a leadership. This project's own.
use Rattle.std.specs.Prelude.{ℤ, Bool, List, [], ◌∷◌, if◌then◌else◌}
use Rattle.std.specs.List.{list_any}
use Rattle.kr_calls.specs.declared.events.Entry.{Entry}
use Rattle.kr_calls.specs.SeatList.{is_below}

-- the entries up to the last one that is below the end
abbrev pub up_to_below : ℤ → List Entry → List Entry
up_to_below end [] = []
up_to_below end (e ∷ es) = if list_any (is_below end) (e ∷ es) then e ∷ up_to_below end es else []

abbrev pub left_if : Bool → ℤ → List Entry → List Entry
left_if lost end entries = if lost then up_to_below end entries else entries
