-- Where replicas are placed: the question's layout, and its answer. This project's own.
use Rattle.std.specs.Prelude.{ℕ, ℤ, pos, ◌+◌, Bool, ◌||◌, List, [], ◌∷◌, ◌++◌, length, nat_lt, int_lt, unsigned_abs, Option, Some, None, Result, Ok, Err, refl, if◌then◌else◌}
use Rattle.std.specs.List.{list_any}
use Rattle.std.specs.Ordering.{int_eq}
use Rattle.kr_defs.specs.Guard.{refuse◌when◌else◌}
use Rattle.kr_defs.specs.Placed.{Rack, placed}
use Rattle.kr_wire.specs.Schema.{Schema, ◌▸◌, Int16, Int32, Int64, TextOrNull, Array, Structure, End, written}
use Rattle.kr_door_loop.specs.declared.placements.PlaceBroker.{PlaceBroker}
use Rattle.kr_door_loop.specs.declared.placements.PlaceQuestion.{PlaceQuestion}
use Rattle.kr_door_loop.specs.declared.refusal.DoorRefusal.{DoorRefusal}
use Rattle.kr_door_loop.specs.declared.refusal.DoorRefusal.TheVariants as refusals

-- id i32, rack str?
abbrev pub place_broker : Schema PlaceBroker
place_broker = Structure (Int32 ▸ TextOrNull ▸ End)
    (λ (id, (rack, end)). record { id = id; rack = rack })
    (λ b. (b.id, (b.rack, tt))) (λ v. refl) (λ b. refl)

-- start i64, index i32, factor i16, brokers
abbrev pub place_question : Schema PlaceQuestion
place_question = Structure (Int64 ▸ Int32 ▸ Int16 ▸ Array place_broker ▸ End)
    (λ (start, (index, (factor, (brokers, end)))). record { start = start; index = index; factor = factor; brokers = brokers })
    (λ q. (q.start, (q.index, (q.factor, (q.brokers, tt))))) (λ v. refl) (λ q. refl)

-- the brokers behind those before, unless one of them stands twice
abbrev pub racked_brokers : List (ℤ × Rack) → List PlaceBroker → Option (List (ℤ × Rack))
racked_brokers before [] = Some before
racked_brokers before (b ∷ others) =
    if list_any (λ broker. int_eq b.id broker.0) before then None else racked_brokers (before ++ (b.id, b.rack) ∷ []) others

-- a number is below its least
abbrev pub has_bad_number : PlaceQuestion → Bool
has_bad_number q = int_lt q.start (pos 0) || int_lt q.index (pos 0) || int_lt q.factor (pos 1)

abbrev pub placed_on : PlaceQuestion → Option (List (ℤ × Rack)) → Result (List ℕ) DoorRefusal
placed_on q None = Err refusals.Repeated
placed_on q (Some brokers) =
    refuse refusals.TooFew when nat_lt (length brokers) (unsigned_abs q.factor) else
    Ok (written (Array Int32) (placed brokers (unsigned_abs q.start + unsigned_abs q.index) (unsigned_abs q.factor)))

-- the placed brokers, as [i32]
unfoldable pub places : PlaceQuestion → Result (List ℕ) DoorRefusal
places q =
    refuse refusals.BadNumber when has_bad_number q else
    placed_on q (racked_brokers [] q.brokers)
