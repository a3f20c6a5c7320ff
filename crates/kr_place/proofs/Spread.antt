-- A placement of brokers that each stand once is good.
use Rattle.std.proofs.Common.{◌≡◌, ℕ, ℤ, List, map, sym, subst}
use Rattle.std.specs.List.{IsDistinct}
use Rattle.std.specs.Ordering.{int_eq}
use Rattle.kr_defs.specs.Placed.{Rack, placed}
use Rattle.kr_place.specs.Spread.{ids_of, IsSpread}
use Rattle.kr_place.proofs.DistinctBrokers.{placed-distinct, placed-count, placed-members}
use Rattle.kr_place.proofs.Names.{placed-racks}

pub spread : (brokers : List (ℤ × Rack)) (start factor : ℕ) → IsDistinct int_eq (ids_of brokers) → IsSpread brokers factor (placed brokers start factor)
spread brokers start factor distinct = record {
  distinct = placed-distinct brokers start factor distinct;
  count = placed-count brokers start factor distinct;
  members = placed-members brokers start factor distinct;
  racks = placed-racks brokers start factor distinct;
}

pub spread_of : (brokers : List (ℤ × Rack)) (start factor : ℕ) (ids : List ℤ) → ids ≡ placed brokers start factor → IsDistinct int_eq (map (λ (broker : ℤ × Rack). broker.0) brokers) → IsSpread brokers factor ids
spread_of brokers start factor ids is distinct = subst (λ (xs : List ℤ). IsSpread brokers factor xs) (sym is) (spread brokers start factor distinct)
