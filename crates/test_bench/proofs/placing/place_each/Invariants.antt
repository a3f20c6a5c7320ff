use Rattle.std.proofs.Common.{◌≡◌}
use Rattle.test_bench.specs.Placements.{placements}
use Rattle.test_bench.proofs.placing.place_each.Given as goal

abbrev pub invariant-loop-number : goal.invariant-loop-number
invariant-loop-number l = l.placed.items ≡ placements l.those l.number
