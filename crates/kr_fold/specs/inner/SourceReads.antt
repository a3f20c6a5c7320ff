-- What is read from a source: bytes behind others, and one batch after the other.
use Rattle.std.specs.Prelude.{◌≡◌, ℕ, ◌+◌, ◌<◌, ◌≤◌, ◌⊎◌, List, [], ◌++◌, length, Option}
use Rattle.std.specs.Io.KnownBytes.{Consumes, IsAtEnd, Keeps}
use Rattle.kr_base.specs.Causes.{Rose}
use Rattle.kr_fold.specs.declared.fault.ToolFault.{ToolFault}
use Rattle.kr_fold.specs.declared.fault.ToolFault.TheVariants as faults
use Rattle.kr_fold.specs.declared.piece.Filled.{Filled}
use Rattle.kr_fold.specs.declared.piece.Filled.TheVariants as fillings
use Rattle.kr_fold.specs.SourceBytes.{longest, HasNoSize, IsBatchAtMost, IsCut, IsCutOff, IsLongest, IsSized, TookUpTo}

-- ---- bytes behind others

-- the bytes got more behind them, which were taken
pub record Grew (left left' : Option (List ℕ)) (bytes bytes' : List ℕ) : Type 0 where
  pub taken : List ℕ
  pub took : Consumes left left' taken
  pub grown : bytes' ≡ bytes ++ taken

-- a read failed, which takes nothing, or there was no memory for what it gave
abbrev pub IsReadFault : Option (List ℕ) → Option (List ℕ) → ℕ → ℕ → List ℕ → List ℕ → ℕ → ToolFault → Type 0
IsReadFault left left' count count' bytes bytes' most faults.ReadFault = Rose count count' × Keeps left left' × (bytes' ≡ bytes)
IsReadFault left left' count count' bytes bytes' most faults.NoMemory = TookUpTo most left left'
IsReadFault left left' count count' bytes bytes' most other = ⊥

-- there are so many bytes, or all that there are, and they are fewer
abbrev pub IsFilled : Filled → Option (List ℕ) → ℕ → ℕ → Type 0
IsFilled fillings.Full left' len len' = len' ≡ len
IsFilled fillings.Ended left' len len' = (len' < len) × IsAtEnd left'

-- the bytes from the place `at` on are fewer than so many, and of where they end that holds
pub record Stops (Where : ℕ → Type 0) (left left' : Option (List ℕ)) (bytes bytes' : List ℕ) (at len : ℕ) : Type 0 where
  pub grew : Grew left left' bytes bytes'
  pub short : length bytes' < len
  pub place : Where (at + length bytes')

-- no more may be taken, or more may be
abbrev pub IsLast : ℕ → Type 0
IsLast place = place ≡ longest

abbrev pub IsBeforeLast : ℕ → Type 0
IsBeforeLast place = place < longest

-- with what was taken behind the bytes, they are no more than so many, and no more than may be taken
pub record TookWithin (left left' : Option (List ℕ)) (bytes : List ℕ) (at len : ℕ) : Type 0 where
  pub taken : List ℕ
  pub took : Consumes left left' taken
  pub few : length bytes + length taken ≤ len
  pub within : at + (length bytes + length taken) ≤ longest

-- why there are fewer
abbrev pub IsShortage : Option (List ℕ) → Option (List ℕ) → ℕ → ℕ → List ℕ → List ℕ → ℕ → ℕ → ToolFault → Type 0
IsShortage left left' count count' bytes bytes' at len faults.ReadFault = Rose count count' × Stops IsBeforeLast left left' bytes bytes' at len
IsShortage left left' count count' bytes bytes' at len faults.NoMemory = TookWithin left left' bytes at len
IsShortage left left' count count' bytes bytes' at len faults.TooLong = Stops IsLast left left' bytes bytes' at len
IsShortage left left' count count' bytes bytes' at len other = ⊥

-- ---- batches

-- the input ends at the place `at`
pub record IsEnd (left left' : Option (List ℕ)) (at : ℕ) : Type 0 where
  pub took : Consumes left left' []
  pub end : IsAtEnd left'
  pub short : at < longest

-- at the place `at` stand these bytes of a batch, as many as it says
pub record IsNext (left left' : Option (List ℕ)) (at : ℕ) (bytes : List ℕ) : Type 0 where
  pub took : Consumes left left' bytes
  pub sized : IsSized bytes
  pub within : at + length bytes ≤ longest

-- some bytes were taken behind the place `at`, of which this holds, and no more than may be taken
pub record Took (Is : List ℕ → Type 0) (left left' : Option (List ℕ)) (at : ℕ) : Type 0 where
  pub taken : List ℕ
  pub took : Consumes left left' taken
  pub within : at + length taken ≤ longest
  pub is : Is taken

-- why no batch is read behind the place `at`, and no more was taken than tells it
abbrev pub HasNone : Option (List ℕ) → Option (List ℕ) → ℕ → ℕ → ℕ → ToolFault → Type 0
HasNone left left' count count' at (faults.Malformed place) = (place ≡ at) × Took (λ bytes. HasNoSize bytes ⊎ IsCutOff left' bytes) left left' at
HasNone left left' count count' at faults.ReadFault = Rose count count' × Took (IsCut at) left left' at
HasNone left left' count count' at faults.NoMemory = Took IsBatchAtMost left left' at
HasNone left left' count count' at faults.TooLong = Took (IsLongest at) left left' at
HasNone left left' count count' at faults.WriteFault = ⊥
