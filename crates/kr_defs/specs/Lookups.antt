-- What a look at a map answers: it lends the value or the entry that it finds. This project's own.
use Rattle.std.specs.Prelude.{◌≡◌, Option, Result, IsErr, IsOkAnd, MatchOption}
use Rattle.std.specs.Borrow.{Bor}
use Rattle.std.specs.Option.{option_copied, option_map}

-- the entry that is lent, as key and value
abbrev pub entry_copied : {K V : Type 0} → Option (Bor K × Bor V) → Option (K × V)
entry_copied entry = option_map (λ e. (e.0.now, e.1.now)) entry

-- an error exactly where there is no map, else the value that stands there
abbrev pub Finds : {M V E : Type 0} → Option M → Result (Option (Bor V)) E → (M → Option V) → Type 0
Finds place result found = MatchOption place (IsErr result) (λ map. IsOkAnd result (λ value. option_copied value ≡ found map))

-- the same of an entry
abbrev pub FindsEntry : {M K V E : Type 0} → Option M → Result (Option (Bor K × Bor V)) E → (M → Option (K × V)) → Type 0
FindsEntry place result found = MatchOption place (IsErr result) (λ map. IsOkAnd result (λ entry. entry_copied entry ≡ found map))
