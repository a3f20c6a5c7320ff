-- Which status comes where no read and no write failed, but for want of memory. It is the input's alone.
use Rattle.std.specs.Prelude.{◌≡◌, ℕ, ◌<◌, ◌≤◌, ◌⊎◌, List, ◌++◌, length, Option, IfSome}
use Rattle.kr_batch.specs.declared.fault.BatchFault.{BatchFault}
use Rattle.kr_process.specs.declared.status.Status.{Status}
use Rattle.kr_process.specs.declared.status.Status.TheVariants as statuses
use Rattle.kr_lines.specs.BatchLines.{AreShown, Shown, shown_bytes}
use Rattle.kr_lines.specs.Endings.{Breaks, longest_input}

-- that status, or memory ran out
abbrev pub EndsBy : Status → Status → Type 0
EndsBy ended wanted = (ended ≡ wanted) ⊎ (ended ≡ statuses.NoMemory)

-- a head and batches are shown
abbrev pub ShowsWhole : (List ℕ → List ℕ → Type 0) → Status → List ℕ → Type 0
ShowsWhole IsHead ended stream =
    (head : List ℕ) (shown : List Shown) → length stream < longest_input → IsHead head stream → AreShown shown →
    stream ≡ head ++ shown_bytes shown → EndsBy ended statuses.Done

-- where none begins behind them, that place is told
abbrev pub TellsBreak : (List ℕ → List ℕ → Type 0) → Status → List ℕ → Type 0
TellsBreak IsHead ended stream =
    (head rest : List ℕ) (shown : List Shown) (cause : BatchFault) → length stream < longest_input → IsHead head stream → AreShown shown →
    stream ≡ (head ++ shown_bytes shown) ++ rest → Breaks rest cause → EndsBy ended (statuses.Malformed (length (head ++ shown_bytes shown)))

-- no head stands there
abbrev pub TellsNoHead : (List ℕ → List ℕ → Type 0) → Status → List ℕ → Type 0
TellsNoHead IsHead ended stream =
    length stream < longest_input → ((head : List ℕ) → IsHead head stream → ⊥) → EndsBy ended (statuses.Malformed 0)

-- there is more than is taken
abbrev pub TellsTooLong : Status → List ℕ → Type 0
TellsTooLong ended stream = longest_input ≤ length stream → EndsBy ended statuses.TooLong

pub record EndsRightly (IsHead : List ℕ → List ℕ → Type 0) (left : Option (List ℕ)) (ended : Status) : Type 0 where
  pub whole : IfSome left (ShowsWhole IsHead ended)
  pub broken : IfSome left (TellsBreak IsHead ended)
  pub headless : IfSome left (TellsNoHead IsHead ended)
  pub longer : IfSome left (TellsTooLong ended)
