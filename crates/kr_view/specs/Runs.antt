-- What a copy takes in at once, as entries. This project's own.
use Rattle.std.specs.Prelude.{◌≡◌, Bool, true, false, List, All}
use Rattle.kr_calls.specs.declared.events.Entry.{Entry}
use Rattle.kr_calls.specs.declared.events.Entry.TheVariants as entries

-- an image in place of all, a pin or an unpin: a copy takes it in by itself
abbrev pub is_single : Entry → Bool
is_single (entries.Item place item) = false
is_single (entries.Load offset records) = true
is_single (entries.Pin pin) = true
is_single (entries.Unpin pin) = true
is_single (entries.Answer answer) = false
is_single (entries.Stop number) = false

abbrev pub AreNoSingles : List Entry → Type 0
AreNoSingles list = All (λ e. is_single e ≡ false) list
