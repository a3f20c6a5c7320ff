-- Bytes that are taken from a source, and are too few. This project's own.
use Rattle.std.specs.Prelude.{◌≡◌, ℕ, ◌+◌, ◌<◌, List, length, Option}
use Rattle.std.specs.Io.KnownBytes.{Consumes, IsAtEnd}
use Rattle.kr_base.specs.Causes.{Rose}
use Rattle.kr_defs.specs.declared.limits.TheConstants.{MOST_SESSION_BYTES}
use Rattle.kr_intake.specs.declared.taking.Shortage.{Shortage}
use Rattle.kr_intake.specs.declared.taking.Shortage.TheVariants as shortages

-- known bytes lose fewer than so many at their front
abbrev pub TakesFewer : Option (List ℕ) → Option (List ℕ) → ℕ → Type 0
TakesFewer before now most = (taken : List ℕ) × Consumes before now taken × (length taken < most)

-- so many bytes came, of so many that were asked for, out of so many that are needed
abbrev pub IsShortOf : ℕ → ℕ → ℕ → Shortage → Type 0
IsShortOf count most len (shortages.Ended came) = (came ≡ count) × (count < most)
IsShortOf count most len shortages.TooLong = (count ≡ most) × (most < len)
IsShortOf count most len shortages.ReadFault = ⊥

-- why no more than these came, of which the last stands before the place `end` of the stream
abbrev pub ShortageCause : ℕ → ℕ → Option (List ℕ) → ℕ → ℕ → Shortage → Type 0
ShortageCause count end left' faults faults' (shortages.Ended came) = (came ≡ count) × IsAtEnd left' × (end < MOST_SESSION_BYTES)
ShortageCause count end left' faults faults' shortages.ReadFault = Rose faults faults' × (end < MOST_SESSION_BYTES)
ShortageCause count end left' faults faults' shortages.TooLong = end ≡ MOST_SESSION_BYTES

-- fewer than so many bytes were taken from a place on
pub record FallsShort (at most : ℕ) (left left' : Option (List ℕ)) (faults faults' : ℕ) (shortage : Shortage) : Type 0 where
  pub taken : List ℕ
  pub took : Consumes left left' taken
  pub few : length taken < most
  pub cause : ShortageCause (length taken) (at + length taken) left' faults faults' shortage
