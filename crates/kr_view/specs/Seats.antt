-- What a clause sees of a reader's seat. This project's own.
use Rattle.std.specs.Prelude.{◌≡◌, ℕ, true, MatchResult}
use Rattle.core.specs.declared.result.Result.{Result}
use Rattle.kr_base.specs.Causes.{Rose}
use Rattle.kr_view.specs.CopiesRule.{GoesOn}
use Rattle.kr_view.specs.Readers.{Reading}
use Rattle.kr_view.specs.declared.rule.ThreadView.{ThreadView}
use Rattle.kr_view.specs.declared.seat.CopyFault.{CopyFault}
use Rattle.kr_view.specs.declared.seat.CopyFault.TheVariants.{NoCopy, NoMemory}

-- its number, what it has seen, and how often it got no copy
pub record Seat : Type 0 where
  pub number : ℕ
  pub seen : ThreadView
  pub misses : ℕ

-- the list goes on, under the same options
pub record Onward (v w : ThreadView) : Type 0 where
  pub list : GoesOn w.list v.list
  pub options : v.seated ≡ true → (w.seated ≡ true) × (w.options ≡ v.options)

abbrev pub IsCopyCause : Seat → Seat → CopyFault → Type 0
IsCopyCause old new NoCopy = (new.seen ≡ old.seen) × Rose old.misses new.misses
IsCopyCause old new NoMemory = new.misses ≡ old.misses

-- no copy only where the count rose, and then nothing else changed
abbrev pub HasCopyCause : {T : Type 0} → Seat → Seat → Result T CopyFault → Type 0
HasCopyCause old new result = MatchResult result (λ _. new.misses ≡ old.misses) (IsCopyCause old new)

abbrev pub seat_reading : Seat → Reading
seat_reading s = record { seen = s.seen; misses = s.misses }

abbrev pub with_seat_reading : Seat → Reading → Seat
with_seat_reading s r = record s { seen = r.seen; misses = r.misses }
