-- Partitions that are placed one after another.
use Rattle.std.specs.Prelude.{ℕ, zero, suc, ℤ, List, [], ◌∷◌, ◌++◌}
use Rattle.kr_place.specs.Placing.{Grouped, placed_in}
use Rattle.test_bench.specs.declared.placing.TheConstants.{FACTOR}

-- the replicas of so many partitions of a topic whose placement begins at 0
unfoldable pub placements : Grouped → ℕ → List (List ℤ)
placements those zero = []
placements those (suc n) = placements those n ++ placed_in those n FACTOR ∷ []
