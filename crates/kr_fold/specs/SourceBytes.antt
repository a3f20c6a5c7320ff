-- Bytes that are taken from a source: how many, and whether they are a batch by the size that they tell.
use Rattle.std.specs.Prelude.{◌≡◌, ℕ, ◌+◌, ◌<◌, ◌≤◌, ◌⊎◌, List, length, Option, Ok, Err}
use Rattle.std.specs.Io.KnownBytes.{Consumes, IsAtEnd}
use Rattle.kr_defs.specs.declared.limits.TheConstants.{MOST_SESSION_BYTES}
use Rattle.kr_batch.specs.declared.fault.BatchFault.{BatchFault}
use Rattle.kr_snapshot.specs.Reading.{extent, size_at}
use Rattle.kr_snapshot.specs.ReaderState.{IsUnfinished}

-- the most bytes that are taken of a log
abbrev pub longest : ℕ
longest = MOST_SESSION_BYTES

-- no more than so many bytes were taken
pub record TookUpTo (most : ℕ) (left left' : Option (List ℕ)) : Type 0 where
  pub taken : List ℕ
  pub took : Consumes left left' taken
  pub few : length taken ≤ most

-- ---- batches

-- all bytes of a batch, by the size that they tell
pub record IsSized (bytes : List ℕ) : Type 0 where
  pub size : ℕ
  pub told : size_at bytes ≡ Ok size
  pub whole : length bytes ≡ extent size

-- base and size of a batch, and no batch has that size
pub record HasNoSize (bytes : List ℕ) : Type 0 where
  pub start : length bytes ≡ 12
  pub fault : BatchFault
  pub told : size_at bytes ≡ Err fault

-- some bytes, fewer than a batch, and no more come
pub record IsCutOff (left' : Option (List ℕ)) (bytes : List ℕ) : Type 0 where
  pub some : 0 < length bytes
  pub cut : IsUnfinished bytes
  pub end : IsAtEnd left'

-- no more than one batch, or than tells that none begins here
abbrev pub IsBatchAtMost : List ℕ → Type 0
IsBatchAtMost bytes = IsUnfinished bytes ⊎ IsSized bytes ⊎ HasNoSize bytes

-- behind the place `at` no whole batch, and more bytes may be taken
abbrev pub IsCut : ℕ → List ℕ → Type 0
IsCut at bytes = IsUnfinished bytes × (at + length bytes < longest)

-- the same, and no more may be taken
abbrev pub IsLongest : ℕ → List ℕ → Type 0
IsLongest at bytes = IsUnfinished bytes × (at + length bytes ≡ longest)
