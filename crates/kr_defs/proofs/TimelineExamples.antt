-- The worked timeline by computation: a map is changed, kept under epochs, reverted and forgotten.
use Rattle.std.proofs.Common.{◌≡◌, ℕ, ℤ, refl, true, List, [], ◌∷◌, pos, Some, None}
use Rattle.std.specs.Option.{option_and_then}
use Rattle.std.specs.Ordering.{int_cmp}
use Rattle.kr_defs.specs.Map.{get, contains, next}
use Rattle.kr_defs.specs.KeptMaps.{KeptMaps, no_maps, map_at, inserted, removed, marked, reverted, forgotten}

-- the key of the example
abbrev a : ℤ
a = pos 7

-- it has 1 at epoch 5 and 2 at epoch 7
abbrev kept_twice : KeptMaps ℤ ℕ
kept_twice = marked (inserted int_cmp (marked (inserted int_cmp no_maps a 1) (pos 5)) a 2) (pos 7)

-- then it is taken out
abbrev taken_out : KeptMaps ℤ ℕ
taken_out = removed int_cmp kept_twice a

was_there : contains int_cmp kept_twice.present a ≡ true
unfolding marked inserted
was_there = refl

gone : get int_cmp taken_out.present a ≡ None
unfolding marked inserted removed
gone = refl

-- what is kept under both epochs stays as it was
at_five : map_at taken_out (pos 5) ≡ Some ((a, 1) ∷ [])
unfolding marked inserted removed
at_five = refl

at_seven : map_at taken_out (pos 7) ≡ Some ((a, 2) ∷ [])
unfolding marked inserted removed
at_seven = refl

-- the first entry at epoch 5
first_at_five : option_and_then (λ (map : List (ℤ × ℕ)). next int_cmp map None) (map_at taken_out (pos 5)) ≡ Some (a, 1)
unfolding marked inserted removed
first_at_five = refl

-- the calls between two marks are counted, and those since the last one
counted_calls : taken_out ≡ record {
  kept = record { epoch = pos 5; map = (a, 1) ∷ []; made = 1 } ∷ record { epoch = pos 7; map = (a, 2) ∷ []; made = 1 } ∷ [];
  present = [];
  made = 1;
}
unfolding marked inserted removed
counted_calls = refl

-- back at epoch 5: 1 again, and epoch 7 isn't kept any more
abbrev back_at_five : KeptMaps ℤ ℕ
back_at_five = record { kept = record { epoch = pos 5; map = (a, 1) ∷ []; made = 1 } ∷ []; present = (a, 1) ∷ []; made = 0 }

back : reverted taken_out (pos 5) ≡ Some back_at_five
unfolding marked inserted removed reverted
back = refl

not_kept : map_at back_at_five (pos 7) ≡ None
not_kept = refl

never_kept : reverted taken_out (pos 6) ≡ None
unfolding marked inserted removed reverted
never_kept = refl

-- below epoch 6 nothing is kept any more, and the present map stays
all_forgotten : forgotten back_at_five (pos 6) ≡ record { kept = []; present = (a, 1) ∷ []; made = 0 }
unfolding forgotten
all_forgotten = refl

-- the oldest entry that is left counts no calls
oldest_left : forgotten taken_out (pos 6) ≡ record { kept = record { epoch = pos 7; map = (a, 2) ∷ []; made = 0 } ∷ []; present = []; made = 1 }
unfolding marked inserted removed forgotten
oldest_left = refl
