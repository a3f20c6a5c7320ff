-- What a good placement over racks is. This project's own.
use Rattle.std.specs.Prelude.{◌≡◌, ℕ, ℤ, Bool, List, map, min, length, filter, All}
use Rattle.std.specs.List.{IsDistinct, Contains, list_any}
use Rattle.std.specs.Ordering.{int_eq, eq_by_cmp}
use Rattle.std.specs.Set.{distinct_count}
use Rattle.kr_defs.specs.Placed.{Rack, rack_order, placed}

-- the ids of the brokers
abbrev pub ids_of : List (ℤ × Rack) → List ℤ
ids_of brokers = map (λ broker. broker.0) brokers

-- the names are of one rack; brokers with no name of a rack stand in one rack together
abbrev pub same_rack : Rack → Rack → Bool
same_rack = eq_by_cmp rack_order

-- how many racks the brokers stand in
unfoldable pub rack_count : List (ℤ × Rack) → ℕ
rack_count brokers = distinct_count same_rack (map (λ broker. broker.1) brokers)

-- the brokers that have these ids
abbrev pub with_ids : List (ℤ × Rack) → List ℤ → List (ℤ × Rack)
with_ids brokers ids = filter (λ broker. list_any (int_eq broker.0) ids) brokers

-- No broker stands twice, there are as many as asked for, or else all, and each is one of the brokers.
-- They stand in as many racks as are asked for, or else in all.
pub record IsSpread (brokers : List (ℤ × Rack)) (factor : ℕ) (ids : List ℤ) : Type 0 where
  pub distinct : IsDistinct int_eq ids
  pub count : length ids ≡ min factor (length brokers)
  pub members : All (λ id. Contains (ids_of brokers) id) ids
  pub racks : rack_count (with_ids brokers ids) ≡ min factor (rack_count brokers)

-- every placement of brokers that each stand once is good
abbrev pub PlacementsAreSpread : Type 0
PlacementsAreSpread = (brokers : List (ℤ × Rack)) (start factor : ℕ) → IsDistinct int_eq (ids_of brokers) → IsSpread brokers factor (placed brokers start factor)
