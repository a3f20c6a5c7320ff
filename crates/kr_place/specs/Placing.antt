-- Brokers that are grouped by rack once, and placed on as often as there are partitions. This project's own.
use Rattle.std.specs.Prelude.{ℕ, ℤ, List, ◌*◌, length, take}
use Rattle.kr_defs.specs.Placed.{Rack, racks_of, visited}

-- the racks in order, as the ids of their brokers in order, and how many brokers there are
pub record Grouped : Type 0 where
  pub racks : List (List ℤ)
  pub count : ℕ

abbrev pub grouped : List (ℤ × Rack) → Grouped
grouped brokers = record { racks = racks_of brokers; count = length brokers }

-- the first `factor` brokers of all visits
abbrev pub placed_in : Grouped → ℕ → ℕ → List ℤ
placed_in those start factor = take factor (visited those.racks start (length those.racks * those.count))
