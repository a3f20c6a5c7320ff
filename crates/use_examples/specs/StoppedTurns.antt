-- What a worker shows after two turns. This project's own.
use Rattle.std.specs.Prelude.{◌≡◌, ℕ, false, List, [], ◌∷◌}
use Rattle.kr_calls.specs.declared.events.Entry.{Entry}
use Rattle.kr_calls.specs.declared.events.Entry.TheVariants as entries
use Rattle.kr_shared.specs.declared.worker.Turn.{Turn}
use Rattle.kr_shared.specs.declared.worker.Turn.TheVariants as turns
use Rattle.kr_shared.specs.Turns.{Bench}

-- nothing was published, nothing is to be, and no stop came
pub record IsFresh (b : Bench) : Type 0 where
  pub list : b.work.shelf.list ≡ []
  pub going : b.stopped ≡ false

-- the list has a stop alone
abbrev pub HasStopAlone : List Entry → Type 0
HasStopAlone list = (number : ℕ) × (list ≡ entries.Stop number ∷ [])

-- By what the two turns told: without a job the list is empty, and a stop in either stands there once. Of another job nothing is said.
abbrev pub ListsTurns : List Entry → Turn → Turn → Type 0
ListsTurns list turns.Idle turns.Idle = list ≡ []
ListsTurns list turns.Idle turns.Stopped = HasStopAlone list
ListsTurns list turns.Stopped turns.Stopped = HasStopAlone list
ListsTurns list turns.Stopped other = ⊥
ListsTurns list first second = Unit {0}
