-- How a balance ends: what was taken and what was written at each answer.
use Rattle.std.specs.Prelude.{◌≡◌, ◌≤◌, ◌⊎◌, ℕ, ℤ, true, false, List, length, Option, IfSome, Result, Ok, Err}
use Rattle.std.specs.Io.KnownBytes.{Appends, Keeps}
use Rattle.kr_base.specs.FailedPuts.{AppendsFront}
use Rattle.kr_defs.specs.Image.{Image}
use Rattle.kr_snapshot.specs.Grammar.{IsImage}
use Rattle.kr_fold.specs.declared.fault.ToolFault.{ToolFault}
use Rattle.kr_fold.specs.declared.fault.ToolFault.TheVariants as faults
use Rattle.kr_fold.specs.Endings.{TookAll, IsInputFault, largest}
use Rattle.kr_model.specs.World.{is_far}
use Rattle.law_balance.specs.Balancing.{Balances}
use Rattle.kr_leaders.specs.Balance.{balanced_text, round}

-- The input is an image at whose offset a leader may begin, its leaders are balanced, and this is what may be written of that.
pub record IsBalanced (percent : ℕ) (Writes : List ℕ → Type 0) (left left' : Option (List ℕ)) : Type 0 where
  pub offset : ℤ
  pub image : Image
  pub ends : TookAll (IsImage offset image) left left'
  pub near : is_far offset ≡ false
  pub balances : Balances image (round percent offset image).image percent
  pub wrote : Writes (balanced_text percent offset image)

-- the input is an image, past the last place at which a leader may begin
pub record IsPast (left left' : Option (List ℕ)) : Type 0 where
  pub offset : ℤ
  pub image : Image
  pub ends : TookAll (IsImage offset image) left left'
  pub far : is_far offset ≡ true

-- why nothing is balanced; that an image is past the last place is told at its first byte
abbrev pub IsBalanceFault : Option (List ℕ) → Option (List ℕ) → ToolFault → Type 0
IsBalanceFault left left' (faults.Malformed at) = IsInputFault left left' (faults.Malformed at) ⊎ ((at ≡ 0) × IsPast left left')
IsBalanceFault left left' fault = IsInputFault left left' fault

-- what each answer tells: the bytes are written once all of the input is an image, and nothing before
abbrev pub BalanceEnds : ℕ → Option (List ℕ) → Option (List ℕ) → Option (List ℕ) → Option (List ℕ) → Result (Unit {0}) ToolFault → Type 0
BalanceEnds percent left left' written written' (Ok done) = IsBalanced percent (Appends written written') left left'
BalanceEnds percent left left' written written' (Err faults.WriteFault) = IsBalanced percent (AppendsFront written written') left left'
BalanceEnds percent left left' written written' (Err fault) = IsBalanceFault left left' fault × Keeps written written'

-- where nothing failed, an input that is an image is balanced, if a leader may begin at its offset
abbrev pub BalancesWhole : Option (List ℕ) → Result (Unit {0}) ToolFault → Type 0
BalancesWhole left result = IfSome left (λ stream. (offset : ℤ) (image : Image) → IsImage offset image stream → length stream ≤ largest → is_far offset ≡ false →
    (result ≡ Ok tt) ⊎ (result ≡ Err faults.NoMemory))

-- and else refused
abbrev pub RefusesPast : Option (List ℕ) → Result (Unit {0}) ToolFault → Type 0
RefusesPast left result = IfSome left (λ stream. (offset : ℤ) (image : Image) → IsImage offset image stream → length stream ≤ largest → is_far offset ≡ true →
    (result ≡ Err (faults.Malformed 0)) ⊎ (result ≡ Err faults.NoMemory))
