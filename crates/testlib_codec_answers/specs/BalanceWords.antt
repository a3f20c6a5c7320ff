-- The words in which a row tells what a balance writes, or why it doesn't (this project's own).
use Rattle.std.specs.Prelude.{◌≡◌, ℕ, bytes_eq, if◌then◌else◌, List, [], ◌++◌, Some, Result, Ok, Err, codes}
use Rattle.hex.specs.Hex.{encode_lower}
use Rattle.kr_fold.specs.declared.fault.ToolFault.{ToolFault}
use Rattle.kr_leaders.specs.Endings.{BalanceEnds}
use Rattle.testlib_codec_answers.specs.FoldWords.{tool_fault_words}

-- the bytes of an image in hex, where they aren't those that were read
abbrev pub balance_words : List ℕ → List ℕ → Result (Unit {0}) ToolFault → List ℕ
balance_words bytes written (Ok done) = if bytes_eq bytes written then codes "same" else codes "ok " ++ encode_lower written
balance_words bytes written (Err fault) = tool_fault_words fault

-- the words of one ending of a balance over these bytes
pub record TellsBalance (percent : ℕ) (bytes text : List ℕ) : Type 0 where
  pub left : List ℕ
  pub written : List ℕ
  pub answer : Result (Unit {0}) ToolFault
  pub ends : BalanceEnds percent (Some bytes) (Some left) (Some []) (Some written) answer
  pub words : text ≡ balance_words bytes written answer
