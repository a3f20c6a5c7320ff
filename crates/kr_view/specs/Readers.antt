-- What a reader of records is, whatever it stands for. This project's own.
use Rattle.std.specs.Prelude.{◌≡◌, ℕ, MatchResult}
use Rattle.core.specs.declared.result.Result.{Result}
use Rattle.kr_base.specs.Causes.{Rose}
use Rattle.kr_view.specs.declared.rule.ThreadView.{ThreadView}
use Rattle.kr_view.specs.declared.scans.ScanFault.{ScanFault}
use Rattle.kr_view.specs.declared.scans.ScanFault.TheVariants.{Gone, NotKept, NoCopy, NoMemory}

-- what it has seen, and how often it got no copy
pub record Reading : Type 0 where
  pub seen : ThreadView
  pub misses : ℕ

abbrev pub IsScanCause : Reading → Reading → ScanFault → Type 0
IsScanCause old new (Gone asked oldest) = new.misses ≡ old.misses
IsScanCause old new (NotKept asked) = new.misses ≡ old.misses
IsScanCause old new NoCopy = (new.seen ≡ old.seen) × Rose old.misses new.misses
IsScanCause old new NoMemory = new.misses ≡ old.misses

-- no copy only where the count rose, and then nothing else changed
abbrev pub HasScanCause : {T : Type 0} → Reading → Reading → Result T ScanFault → Type 0
HasScanCause old new result = MatchResult result (λ _. new.misses ≡ old.misses) (IsScanCause old new)
