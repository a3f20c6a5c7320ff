use Rattle.std.proofs.Common.{◌≡◌, vec_len}
use Rattle.test_bench.proofs.checksum.numbers.Given as goal

abbrev pub invariant-loop-number : goal.invariant-loop-number
invariant-loop-number l = vec_len l.bytes ≡ l.number
