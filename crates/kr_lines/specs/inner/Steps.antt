-- One batch after the other is shown.
use Rattle.std.specs.Prelude.{◌≡◌, ℕ, ◌≤◌, ◌<◌, List, ◌++◌, take, drop, length, Ok, Err}
use Rattle.kr_batch.specs.declared.Batch.{Batch}
use Rattle.kr_batch.specs.declared.fault.BatchFault.{BatchFault}
use Rattle.kr_batch.specs.declared.fault.BatchFault.TheVariants as batches
use Rattle.kr_batch.specs.Grammar.{IsBatch}
use Rattle.kr_batch.specs.Reading.{batch_of}
use Rattle.kr_lines.specs.declared.fault.ShowFault.{ShowFault}
use Rattle.kr_lines.specs.declared.fault.ShowFault.TheVariants as faults
use Rattle.kr_lines.specs.BatchLines.{Shown, AreShown, shown_bytes, lines_of, batch_lines}
use Rattle.kr_snapshot.specs.Reading.{extent, size_at}
use Rattle.kr_lines.specs.Endings.{Breaks}

-- the batch at the front has so many bytes
abbrev pub IsFront : List ℕ → ℕ → Type 0
IsFront bytes len = (size : ℕ) × (size_at bytes ≡ Ok size) × (len ≡ extent size)

-- the lines of the batch that the bytes are, or why they are none
pub record IsTextOf (bytes text : List ℕ) : Type 0 where
  pub batch : Batch
  pub is : IsBatch batch bytes
  pub lines : text ≡ batch_lines batch bytes

abbrev pub IsNoText : List ℕ → ℕ → ShowFault → Type 0
IsNoText bytes at (faults.Malformed place cause) = (place ≡ at) × (batch_of bytes ≡ Err cause)
IsNoText bytes at faults.NoMemory = Unit {0}
IsNoText bytes at other = ⊥

-- the fault of a batch at the place `at`
abbrev pub fault_of : ℕ → BatchFault → ShowFault
fault_of at batches.NoMemory = faults.NoMemory
fault_of at cause = faults.Malformed at cause

-- a batch stands between two places, and its lines got behind the text
pub record IsShownTo (bytes : List ℕ) (at : ℕ) (text text' : List ℕ) (next : ℕ) : Type 0 where
  pub batch : Batch
  pub front : List ℕ
  pub parts : take next bytes ≡ take at bytes ++ front
  pub is : IsBatch batch front
  pub lines : text' ≡ text ++ batch_lines batch front
  pub more : at < next
  pub within : next ≤ length bytes

-- no batch stands at the place, and the text is as it was
abbrev pub IsStopped : List ℕ → ℕ → List ℕ → List ℕ → ShowFault → Type 0
IsStopped bytes at text text' (faults.Malformed place cause) = (place ≡ at) × Breaks (drop at bytes) cause × (text' ≡ text)
IsStopped bytes at text text' faults.NoMemory = text' ≡ text
IsStopped bytes at text text' other = ⊥

-- a head and batches stand up to the place, and the text is the batches' lines
pub record SoFar (head bytes : List ℕ) (at : ℕ) (text : List ℕ) : Type 0 where
  pub shown : List Shown
  pub are : AreShown shown
  pub parts : take at bytes ≡ head ++ shown_bytes shown
  pub lines : text ≡ lines_of shown
  pub within : at ≤ length bytes
