-- How a decoder's answer follows from reading. Of its faults some are free, as want of memory: they may come whatever is read.
use Rattle.std.specs.Prelude.{◌≡◌, ℕ, ◌≤◌, Bool, true, false, List, length, drop, Result, Ok, Err}

abbrev pub Unless : Bool → Type 0 → Type 0
Unless true Wanted = Unit {0}
Unless false Wanted = Wanted

abbrev pub IsFault : {Y E : Type 0} → (E → Bool) → E → Result Y E → Type 0
IsFault is_free fault read = Unless (is_free fault) (read ≡ Err fault)

abbrev pub Gives : {Y E : Type 0} → (E → Bool) → Result Y E → Result Y E → Type 0
Gives is_free (Ok x) read = read ≡ Ok x
Gives is_free (Err e) read = IsFault is_free e read

-- the same with the place behind
abbrev pub GivesAt : {Y E : Type 0} → (E → Bool) → Result (Y × ℕ) E → List ℕ → Result (Y × List ℕ) E → Type 0
GivesAt is_free (Ok x) bytes read = (read ≡ Ok (x.0, drop x.1 bytes)) × (x.1 ≤ length bytes)
GivesAt is_free (Err e) bytes read = IsFault is_free e read
