-- The numbers with which a process of the tool ends (this project's own).
use Rattle.std.specs.Prelude.{ℕ}
use Rattle.kr_process.specs.declared.status.Status.{Status}
use Rattle.kr_process.specs.declared.status.Status.TheVariants as statuses

-- the number with which the process ends
abbrev pub number_of : Status → ℕ
number_of statuses.Done = 0
number_of statuses.Usage = 2
number_of (statuses.Malformed at) = 3
number_of statuses.ReadFault = 4
number_of statuses.WriteFault = 5
number_of statuses.NoMemory = 6
number_of statuses.TooLong = 7
