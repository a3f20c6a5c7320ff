-- The words in which a row tells how a session ended (this project's own).
use Rattle.std.specs.Prelude.{◌≡◌, ℕ, List, [], ◌++◌, length, Some, codes}
use Rattle.std.specs.Fmt.{decimal}
use Rattle.kr_process.specs.declared.status.Status.{Status}
use Rattle.kr_process.specs.declared.status.Status.TheVariants as statuses
use Rattle.kr_session_loop.specs.Endings.{EndsWith}
use Rattle.testlib_words.specs.PlainWords.{◌␣◌, hex_words}

abbrev pub status_words : Status → List ℕ
status_words statuses.Done = codes "done"
status_words statuses.Usage = codes "usage"
status_words (statuses.Malformed at) = codes "malformed at " ++ decimal at
status_words statuses.ReadFault = codes "read fault"
status_words statuses.WriteFault = codes "write fault"
status_words statuses.NoMemory = codes "out of memory"
status_words statuses.TooLong = codes "input too long"

-- how many bytes are left, what is written in hex, and the status
abbrev pub session_words : List ℕ → List ℕ → Status → List ℕ
session_words left written status = decimal (length left) ␣ hex_words written ␣ status_words status

-- the words of one ending of a session that takes these bytes
pub record TellsSession (bytes text : List ℕ) : Type 0 where
  pub left : List ℕ
  pub written : List ℕ
  pub status : Status
  pub ends : EndsWith (Some bytes) (Some left) (Some []) (Some written) status
  pub words : text ≡ session_words left written status
