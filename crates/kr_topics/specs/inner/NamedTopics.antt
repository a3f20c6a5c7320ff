-- Which topics were named so far. This project's own.
use Rattle.std.specs.Prelude.{◌≡◌, ℕ, ◌==◌, List}
use Rattle.std.specs.BTreeSet.{BTreeSet, contains}
use Rattle.std.specs.List.{list_any}
use Rattle.std.specs.Ordering.{nat_cmp}

-- the set has the ids that were named so far
abbrev pub Marks : BTreeSet ℕ → List ℕ → Type 0
Marks seen ids = (id : ℕ) → contains nat_cmp seen id ≡ list_any (λ i. i == id) ids
