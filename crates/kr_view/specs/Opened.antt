-- What a clause sees of what was opened. This project's own.
use Rattle.std.specs.Prelude.{◌≡◌, ℕ, ◌+◌, true, List, [], Some, slice_get, length}
use Rattle.kr_base.specs.Causes.{Rose}
use Rattle.kr_defs.specs.declared.options.Options.{Options}
use Rattle.kr_view.specs.declared.opening.ViewFault.{ViewFault}
use Rattle.kr_view.specs.declared.opening.ViewFault.TheVariants.{NoPlace, NoMemory}
use Rattle.kr_view.specs.CopiesRule.{seen}
use Rattle.kr_view.specs.Seats.{Seat}
use Rattle.kr_view.specs.Shelves.{Shelf}

-- the seats have the numbers from 1 on, and have seen the empty list
abbrev pub AreSeats : Options → List Seat → Type 0
AreSeats options seats = (k : ℕ) (s : Seat) → slice_get seats k ≡ Some s → s ≡ record { number = k + 1; seen = seen true options []; misses = 0 }

pub record IsOpened (o : Options) (readers : ℕ) (p : Shelf) (rs : List Seat) : Type 0 where
  pub publisher : p ≡ record { options = o; list = []; waiting = []; items = []; notes = [] }
  pub many : length rs ≡ readers
  pub seats : AreSeats o rs

-- no place only where the count rose
abbrev pub IsViewCause : ℕ → ℕ → ViewFault → Type 0
IsViewCause old new NoPlace = Rose old new
IsViewCause old new NoMemory = new ≡ old
