-- An input is taken to its end, and what is shown of it is written.
use Rattle.std.specs.Prelude.{◌≡◌, ℕ, ℤ, ◌+◌, ◌≤◌, List, Option, Some, None, ◌++◌, drop, Ok, Err}
use Rattle.std.specs.Io.KnownBytes.{Consumes, Keeps}
use Rattle.kr_wire.specs.declared.WireFault.{WireFault}
use Rattle.kr_lines.specs.declared.fault.ShowFault.{ShowFault}
use Rattle.kr_lines.specs.declared.fault.ShowFault.TheVariants as faults
use Rattle.kr_lines.specs.declared.input.Word.{Word}
use Rattle.kr_lines.specs.declared.input.Word.TheVariants as which
use Rattle.kr_lines.specs.Endings.{IsAtMost, IsBelow, IsLogHead, HasLongest, IsImageHead, TakesSome, longest_input}
use Rattle.kr_snapshot.specs.Reading.{numbers_at}

-- the bytes got more behind them, which were taken
pub record TookBehind (left left' : Option (List ℕ)) (bytes bytes' : List ℕ) : Type 0 where
  pub taken : List ℕ
  pub took : Consumes left left' taken
  pub grown : bytes' ≡ bytes ++ taken

-- with so many bytes before them these are no more than may be taken
abbrev pub FitsBehind : ℕ → ℕ → Type 0
FitsBehind before long = before + long ≤ longest_input

-- why nothing gets behind so many bytes
abbrev pub IsPieceFault : Option (List ℕ) → Option (List ℕ) → ℕ → ShowFault → Type 0
IsPieceFault left left' before faults.ReadFault = Keeps left left'
IsPieceFault left left' before faults.NoMemory = TakesSome (FitsBehind before) left left'
IsPieceFault left left' before other = ⊥

-- why an input isn't taken to its end
abbrev pub IsNotTaken : Option (List ℕ) → Option (List ℕ) → ShowFault → Type 0
IsNotTaken left left' faults.ReadFault = TakesSome IsBelow left left'
IsNotTaken left left' faults.NoMemory = TakesSome IsAtMost left left'
IsNotTaken left left' faults.TooLong = TakesSome HasLongest left left'
IsNotTaken left left' other = ⊥

-- what stands before the batches, by what is asked
abbrev pub IsHeadOf : Word → List ℕ → List ℕ → Type 0
IsHeadOf which.Log = IsLogHead
IsHeadOf which.Image = IsImageHead

-- the batches begin at this place, or the bytes have no such head
abbrev pub IsStartOf : Word → List ℕ → Option ℕ → Type 0
IsStartOf which.Log bytes (Some start) = start ≡ 0
IsStartOf which.Image bytes (Some start) = (numbers : ℤ × ℕ) × (numbers_at bytes ≡ Ok (numbers, drop start bytes))
IsStartOf which.Log bytes None = ⊥
IsStartOf which.Image bytes None = (fault : WireFault) × (numbers_at bytes ≡ Err fault)
