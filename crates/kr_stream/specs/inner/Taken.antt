-- Bytes that are taken from a source, of a frame that begins at some place.
use Rattle.std.specs.Prelude.{◌≡◌, ℕ, ◌+◌, ◌<◌, List, length, Option}
use Rattle.std.specs.Io.KnownBytes.{Consumes, IsAtEnd}
use Rattle.kr_base.specs.Causes.{Rose}
use Rattle.kr_defs.specs.declared.limits.TheConstants.{MOST_SESSION_BYTES}
use Rattle.kr_intake.specs.declared.taking.Shortage.{Shortage}
use Rattle.kr_intake.specs.declared.taking.Shortage.TheVariants as shortages
use Rattle.kr_stream.specs.declared.fault.StreamFault.{StreamFault}
use Rattle.kr_stream.specs.declared.fault.StreamFault.TheVariants as faults

-- what it means that too few bytes came of a frame that begins at `start`
abbrev pub shortage_fault : ℕ → Shortage → StreamFault
shortage_fault start (shortages.Ended came) = faults.Malformed start
shortage_fault start shortages.ReadFault = faults.ReadFault
shortage_fault start shortages.TooLong = faults.TooLong

-- why bytes are too few, of a frame that begins at `start`, where the last one taken stands before `end`
abbrev pub ShortCause : ℕ → ℕ → Option (List ℕ) → ℕ → ℕ → StreamFault → Type 0
ShortCause start end left' count count' (faults.Malformed place) = (place ≡ start) × IsAtEnd left' × (end < MOST_SESSION_BYTES)
ShortCause start end left' count count' faults.ReadFault = Rose count count' × (end < MOST_SESSION_BYTES)
ShortCause start end left' count count' faults.TooLong = end ≡ MOST_SESSION_BYTES
ShortCause start end left' count count' faults.NoMemory = ⊥

-- fewer than so many bytes were taken from a place on
pub record Short (start at most : ℕ) (left left' : Option (List ℕ)) (count count' : ℕ) (fault : StreamFault) : Type 0 where
  pub taken : List ℕ
  pub took : Consumes left left' taken
  pub few : length taken < most
  pub cause : ShortCause start (at + length taken) left' count count' fault
