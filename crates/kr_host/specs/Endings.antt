-- The numbers with which the daemon ends. This project's own.
use Rattle.std.specs.Prelude.{ℕ}
use Rattle.kr_host.specs.declared.ended.Ended.{Ended}
use Rattle.kr_host.specs.declared.ended.Ended.TheVariants as ends

abbrev pub number_of : Ended → ℕ
number_of ends.Done = 0
number_of ends.BadAddress = 1
number_of ends.Usage = 2
number_of ends.NoMemory = 6
number_of ends.NoPlace = 8
