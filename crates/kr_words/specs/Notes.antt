-- The words of the tool, and the line of notes of each status (this project's own).
use Rattle.std.specs.Prelude.{◌≡◌, ◌<◌, ◌≤◌, ℕ, ◌^◌, ◌⊎◌, Result, Ok, Err, List, [], ◌∷◌, ◌++◌, codes}
use Rattle.std.specs.Fmt.{decimal}
use Rattle.kr_fold.specs.declared.fault.ToolFault.{ToolFault}
use Rattle.kr_fold.specs.declared.fault.ToolFault.TheVariants as faults
use Rattle.kr_process.specs.declared.status.Status.{Status}
use Rattle.kr_process.specs.declared.status.Status.TheVariants as statuses

-- the words that are served
abbrev pub IsSession : List (List ℕ) → Type 0
IsSession words = words ≡ codes "session" ∷ []

abbrev pub IsFold : List (List ℕ) → Type 0
IsFold words = words ≡ codes "fold" ∷ []

abbrev pub IsDump : List (List ℕ) → Type 0
IsDump words = words ≡ codes "dump" ∷ []

-- `make` and a number of 32 bits, without leading zeros
abbrev pub IsMake : List (List ℕ) → ℕ → Type 0
IsMake words seed = (seed < 2 ^ 32) × (words ≡ codes "make" ∷ decimal seed ∷ [])

-- `nodes` and such a number
abbrev pub IsNodes : List (List ℕ) → ℕ → Type 0
IsNodes words seed = (seed < 2 ^ 32) × (words ≡ codes "nodes" ∷ decimal seed ∷ [])

-- `balance` and a percentage, without leading zeros
abbrev pub IsBalance : List (List ℕ) → ℕ → Type 0
IsBalance words percent = (percent ≤ 100) × (words ≡ codes "balance" ∷ decimal percent ∷ [])

abbrev pub AreServed : List (List ℕ) → Type 0
AreServed words = IsSession words ⊎ IsFold words ⊎ IsDump words ⊎ ((seed : ℕ) × IsMake words seed) ⊎ ((seed : ℕ) × IsNodes words seed) ⊎ ((percent : ℕ) × IsBalance words percent)

-- the status of what `fold`, `dump` and `balance` answer
abbrev pub status_of : Result (Unit {0}) ToolFault → Status
status_of (Ok done) = statuses.Done
status_of (Err (faults.Malformed at)) = statuses.Malformed at
status_of (Err faults.ReadFault) = statuses.ReadFault
status_of (Err faults.WriteFault) = statuses.WriteFault
status_of (Err faults.NoMemory) = statuses.NoMemory
status_of (Err faults.TooLong) = statuses.TooLong

-- the status is that of an answer of which this holds
pub record IsOf (Holds : Result (Unit {0}) ToolFault → Type 0) (status : Status) : Type 0 where
  pub answer : Result (Unit {0}) ToolFault
  pub is : status ≡ status_of answer
  pub holds : Holds answer

abbrev pub line : List ℕ → List ℕ
line text = text ++ 10 ∷ []

-- the line of a status, none where the job was done
abbrev pub note_of : Status → List ℕ
note_of statuses.Done = []
note_of statuses.Usage = line (codes "usage: kr_tool session | fold | dump | make N | nodes N | balance P")
note_of (statuses.Malformed at) = line (codes "malformed at " ++ decimal at)
note_of statuses.ReadFault = line (codes "read fault")
note_of statuses.WriteFault = line (codes "write fault")
note_of statuses.NoMemory = line (codes "out of memory")
note_of statuses.TooLong = line (codes "input too long")

abbrev pub IsMalformed : Status → Type 0
IsMalformed status = (at : ℕ) × (status ≡ statuses.Malformed at)
