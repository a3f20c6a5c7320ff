-- The words in which a row tells what a fold and a dump write, or why they don't (this project's own).
use Rattle.std.specs.Prelude.{◌≡◌, ℕ, ◌==◌, if◌then◌else◌, List, [], ◌∷◌, ◌++◌, Some, Result, Ok, Err, codes, flat_map}
use Rattle.std.specs.Fmt.{decimal}
use Rattle.hex.specs.Hex.{encode_lower}
use Rattle.kr_fold.specs.declared.fault.ToolFault.{ToolFault}
use Rattle.kr_fold.specs.declared.fault.ToolFault.TheVariants as faults
use Rattle.kr_fold.specs.Endings.{DumpEnds, FoldEnds}

abbrev pub tool_fault_words : ToolFault → List ℕ
tool_fault_words (faults.Malformed at) = codes "malformed at " ++ decimal at
tool_fault_words faults.ReadFault = codes "a read failed"
tool_fault_words faults.WriteFault = codes "a write failed"
tool_fault_words faults.NoMemory = codes "out of memory"
tool_fault_words faults.TooLong = codes "the input is too long"

-- the bytes of an image in hex
abbrev pub fold_words : List ℕ → Result (Unit {0}) ToolFault → List ℕ
fold_words written (Ok done) = codes "ok " ++ encode_lower written
fold_words written (Err fault) = tool_fault_words fault

-- a text in one line, each line end as `\n`
abbrev pub in_one_line : List ℕ → List ℕ
in_one_line text = flat_map (λ byte. if byte == 10 then codes "\\n" else byte ∷ []) text

abbrev pub dump_words : List ℕ → Result (Unit {0}) ToolFault → List ℕ
dump_words written (Ok done) = codes "ok " ++ in_one_line written
dump_words written (Err fault) = tool_fault_words fault

-- the words of one ending of a fold over these bytes
pub record TellsFold (bytes text : List ℕ) : Type 0 where
  pub left : List ℕ
  pub written : List ℕ
  pub answer : Result (Unit {0}) ToolFault
  pub ends : FoldEnds (Some bytes) (Some left) (Some []) (Some written) answer
  pub words : text ≡ fold_words written answer

-- the same of a dump
pub record TellsDump (bytes text : List ℕ) : Type 0 where
  pub left : List ℕ
  pub written : List ℕ
  pub answer : Result (Unit {0}) ToolFault
  pub ends : DumpEnds (Some bytes) (Some left) (Some []) (Some written) answer
  pub words : text ≡ dump_words written answer
