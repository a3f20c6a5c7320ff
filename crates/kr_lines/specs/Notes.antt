-- The words of the program, and the line of notes of each answer (this project's own).
use Rattle.std.specs.Prelude.{◌≡◌, ℕ, ◌⊎◌, List, [], ◌∷◌, ◌++◌, Option, Result, Ok, Err, codes}
use Rattle.std.specs.Fmt.{decimal}
use Rattle.std.specs.Io.KnownBytes.{Appends}
use Rattle.kr_base.specs.Causes.{Still}
use Rattle.kr_batch.specs.declared.fault.BatchFault.{BatchFault}
use Rattle.kr_batch.specs.declared.fault.BatchFault.TheVariants as batches
use Rattle.kr_batch.specs.declared.fault.Cause.{Cause}
use Rattle.kr_batch.specs.declared.fault.Cause.TheVariants as causes
use Rattle.kr_record.specs.declared.fault.RecordFault.{RecordFault}
use Rattle.kr_record.specs.declared.fault.RecordFault.TheVariants as values
use Rattle.kr_process.specs.declared.status.Status.{Status}
use Rattle.kr_process.specs.declared.status.Status.TheVariants as statuses
use Rattle.kr_process.specs.declared.words.WordsFault.{WordsFault}
use Rattle.kr_process.specs.declared.words.WordsFault.TheVariants as words
use Rattle.kr_lines.specs.declared.fault.ShowFault.{ShowFault}
use Rattle.kr_lines.specs.declared.fault.ShowFault.TheVariants as faults

-- ---- words

abbrev pub AsksLog : List (List ℕ) → Type 0
AsksLog words = words ≡ codes "log" ∷ []

abbrev pub AsksImage : List (List ℕ) → Type 0
AsksImage words = words ≡ codes "image" ∷ []

abbrev pub AreShowWords : List (List ℕ) → Type 0
AreShowWords words = AsksLog words ⊎ AsksImage words

-- ---- names of faults

abbrev pub value_name : RecordFault → List ℕ
value_name (values.Wire fault) = codes "Wire"
value_name (values.FrameVersion found) = codes "FrameVersion"
value_name (values.UnknownKey key) = codes "UnknownKey"
value_name (values.UnknownVersion key version) = codes "UnknownVersion"
value_name values.Trailing = codes "TrailingValue"
value_name values.NoMemory = codes "NoMemory"

abbrev pub cause_name : Cause → List ℕ
cause_name causes.Framing = codes "Framing"
cause_name (causes.Value fault) = value_name fault

-- of a record that of its cause
abbrev pub fault_name : BatchFault → List ℕ
fault_name batches.Short = codes "Short"
fault_name batches.Trailing = codes "Trailing"
fault_name (batches.Magic found) = codes "Magic"
fault_name (batches.Crc stored counted) = codes "Crc"
fault_name (batches.Compressed kind) = codes "Compressed"
fault_name (batches.BadCount count delta) = codes "BadCount"
fault_name (batches.BadOffset at) = codes "BadOffset"
fault_name (batches.Record at cause) = cause_name cause
fault_name batches.NoMemory = codes "NoMemory"

-- ---- answers

abbrev pub status_for : Result (Unit {0}) ShowFault → Status
status_for (Ok done) = statuses.Done
status_for (Err (faults.BadHead)) = statuses.Malformed 0
status_for (Err (faults.Malformed at cause)) = statuses.Malformed at
status_for (Err faults.ReadFault) = statuses.ReadFault
status_for (Err faults.WriteFault) = statuses.WriteFault
status_for (Err faults.NoMemory) = statuses.NoMemory
status_for (Err faults.TooLong) = statuses.TooLong

abbrev pub note_line : List ℕ → List ℕ
note_line text = text ++ 10 ∷ []

abbrev pub usage : List ℕ
usage = note_line (codes "usage: kr_show log | image")

-- the line where the words aren't known
abbrev pub refusal : WordsFault → List ℕ
refusal words.NotText = usage
refusal words.NoMemory = note_line (codes "out of memory")

-- the line of an answer, none where all of the input is shown
abbrev pub note_for : Result (Unit {0}) ShowFault → List ℕ
note_for (Ok done) = []
note_for (Err faults.BadHead) = note_line (codes "malformed at 0: Head")
note_for (Err (faults.Malformed at cause)) = codes "malformed at " ++ (decimal at ++ (codes ": " ++ note_line (fault_name cause)))
note_for (Err faults.ReadFault) = note_line (codes "read fault")
note_for (Err faults.WriteFault) = note_line (codes "write fault")
note_for (Err faults.NoMemory) = note_line (codes "out of memory")
note_for (Err faults.TooLong) = note_line (codes "input too long")

-- ---- a run

-- a number in the line of a fault wants memory
abbrev pub NeedsNumber : Result (Unit {0}) ShowFault → Type 0
NeedsNumber (Err (faults.Malformed at cause)) = Unit {0}
NeedsNumber other = ⊥

-- the status is that of an answer of which this holds, and the notes got the answer's line; or memory ran out for that of a fault
pub record TellsAnswer (Holds : Result (Unit {0}) ShowFault → Type 0) (noted noted' : Option (List ℕ)) (count count' : ℕ) (ended : Status) : Type 0 where
  pub answer : Result (Unit {0}) ShowFault
  pub holds : Holds answer
  pub told : Result (Unit {0}) ShowFault
  pub same : (told ≡ answer) ⊎ (NeedsNumber answer × (told ≡ Err faults.NoMemory))
  pub status : ended ≡ status_for told
  pub line : Still count count' → Appends noted noted' (note_for told)
