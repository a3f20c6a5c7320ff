-- The worked example of placement, by computation: brokers 1 and 2 in rack a, 3 in b, 4 in c.
use Rattle.std.proofs.Common.{◌≡◌, ℤ, pos, List, [], ◌∷◌, Some, None, refl}
use Rattle.kr_defs.specs.Placed.{Rack, racks_of, visit, visited, placed}

abbrev brokers : List (ℤ × Rack)
brokers = (pos 1, Some (97 ∷ [])) ∷ (pos 2, Some (97 ∷ [])) ∷ (pos 3, Some (98 ∷ [])) ∷ (pos 4, Some (99 ∷ [])) ∷ []

first : placed brokers 0 3 ≡ pos 1 ∷ pos 3 ∷ pos 4 ∷ []
unfolding racks_of visit visited placed
first = refl

second : placed brokers 1 3 ≡ pos 3 ∷ pos 4 ∷ pos 1 ∷ []
unfolding racks_of visit visited placed
second = refl

fourth : placed brokers 3 3 ≡ pos 2 ∷ pos 3 ∷ pos 4 ∷ []
unfolding racks_of visit visited placed
fourth = refl

all_four : placed brokers 0 4 ≡ pos 1 ∷ pos 3 ∷ pos 4 ∷ pos 2 ∷ []
unfolding racks_of visit visited placed
all_four = refl

-- brokers with no rack stand first
no_rack : placed ((pos 7, Some (97 ∷ [])) ∷ (pos 9, None) ∷ (pos 8, None) ∷ []) 0 3 ≡ pos 8 ∷ pos 7 ∷ pos 9 ∷ []
unfolding racks_of visit visited placed
no_rack = refl
