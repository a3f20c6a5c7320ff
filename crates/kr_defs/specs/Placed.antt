-- Where the replicas of a partition are placed. This project's own.
use Rattle.std.specs.Prelude.{ℕ, ℤ, List, [], ◌∷◌, ◌++◌, Option, None, ◌+◌, ◌*◌, ◌/◌, ◌%◌, cond, nat_lt, length, unwrap_or, fold, take, slice_get}
use Rattle.std.specs.declared.cmp.Ordering.{Ordering}
use Rattle.std.specs.List.{filter_map, range_with_len}
use Rattle.std.specs.Map.{values_of}
use Rattle.std.specs.Option.{option_cmp, option_and_then}
use Rattle.std.specs.Ordering.{int_cmp}
use Rattle.kr_defs.specs.Map.{text_order}
use Rattle.kr_defs.specs.Map as entries

-- the name of a rack, or none
abbrev pub Rack : Type 0
Rack = Option (List ℕ)

-- no rack first, then by name
abbrev pub rack_order : Rack → Rack → Ordering
rack_order = option_cmp text_order

-- the brokers by id, each with its rack
abbrev pub by_id : List (ℤ × Rack) → List (ℤ × Rack)
by_id brokers = fold (λ (sorted : List (ℤ × Rack)) (broker : ℤ × Rack). entries.insert int_cmp sorted broker.0 broker.1) [] brokers

-- the broker comes last in its rack
abbrev pub into_rack : List (Rack × List ℤ) → ℤ × Rack → List (Rack × List ℤ)
into_rack racks (id, rack) = entries.insert rack_order (entries.remove rack_order racks rack) rack (unwrap_or (entries.get rack_order racks rack) [] ++ id ∷ [])

-- the racks in order, as the ids of their brokers in order
unfoldable pub racks_of : List (ℤ × Rack) → List (List ℤ)
racks_of brokers = values_of (fold into_rack [] (by_id brokers))

-- the broker that visit number k takes, if its rack has one left
unfoldable pub visit : List (List ℤ) → ℕ → ℕ → Option ℤ
visit racks start k =
    option_and_then (λ (rack : List ℤ). cond (nat_lt (k / length racks) (length rack)) (slice_get rack ((start / length racks + k / length racks) % length rack)) None)
    (slice_get racks ((start + k) % length racks))

-- the brokers of the first visits; a rack has no broker left from the round on whose number is that of its brokers
unfoldable pub visited : List (List ℤ) → ℕ → ℕ → List ℤ
visited racks start visits = filter_map (visit racks start) (range_with_len 0 visits)

-- the first `factor` brokers of all visits
unfoldable pub placed : List (ℤ × Rack) → ℕ → ℕ → List ℤ
placed brokers start factor = take factor (visited (racks_of brokers) start (length (racks_of brokers) * length brokers))
