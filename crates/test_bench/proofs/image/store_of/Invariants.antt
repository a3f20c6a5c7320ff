use Rattle.std.specs.Prelude.{IsSome}
use Rattle.kr_store.specs.Images.{last_kept}
use Rattle.test_bench.proofs.image.store_of.Given as goal

abbrev pub invariant-loop-value : goal.invariant-loop-value
invariant-loop-value g l = IsSome (last_kept l.store)
