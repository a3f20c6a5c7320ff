use Rattle.std.proofs.Common.{◌≡◌, vec_len}
use Rattle.test_bench.proofs.placing.brokers.Given as goal

abbrev pub invariant-loop-id : goal.invariant-loop-id
invariant-loop-id l = vec_len l.those ≡ l.id
