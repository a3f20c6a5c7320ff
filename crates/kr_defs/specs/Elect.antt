-- KIP-966, without its election of a last known leader: who leads a partition.
use Rattle.std.specs.Prelude.{Bool, true, false, not, ◌&&◌, ◌||◌, List, [], ◌∷◌, ◌++◌, ℤ, negsuc, take, filter, map, Option, Some, None, if◌then◌else◌}
use Rattle.std.specs.Ordering.{int_eq}
use Rattle.kr_defs.specs.declared.partition.Partition.{Partition}
use Rattle.kr_defs.specs.declared.changing.Mode.{Mode}
use Rattle.kr_defs.specs.declared.changing.Mode.TheVariants as modes
use Rattle.kr_defs.specs.declared.changing.Choice.{Choice}
use Rattle.kr_defs.specs.declared.changing.Choice.TheVariants as choices
use Rattle.kr_defs.specs.declared.changing.Facts.{Facts}
use Rattle.kr_defs.specs.Ids.{has}

abbrev pub is_preferred : Mode → Bool
is_preferred modes.Preferred = true
is_preferred other = false

abbrev pub is_unclean_mode : Mode → Bool
is_unclean_mode modes.Unclean = true
is_unclean_mode other = false

-- the broker has restarted uncleanly
abbrev pub is_restarted : Option ℤ → ℤ → Bool
is_restarted None id = false
is_restarted (Some restarted) id = int_eq restarted id

module _ (p : Partition) (replicas in_sync : List ℤ) (mode : Mode) (restarted : Option ℤ) (facts : Facts) where
  abbrev pub is_sound : ℤ → Bool
  is_sound id = has in_sync id && has facts.active id

  abbrev pub is_electable : ℤ → Bool
  is_electable id = has p.eligible id && has facts.active id && not (is_restarted restarted id)

  -- in mode Preferred the first replica, then the present leader, then all replicas
  abbrev pub in_turn : List ℤ
  in_turn = (if is_preferred mode then take 1 replicas else []) ++ p.leader ∷ replicas

  -- all replicas where records may be lost
  abbrev pub at_last : List ℤ
  at_last = if facts.unclean || is_unclean_mode mode then replicas else []

  abbrev pub candidates : List (ℤ × Choice)
  candidates =
      map (λ id. (id, choices.InSync)) (filter is_sound in_turn)
      ++ map (λ id. (id, choices.Eligible)) (filter is_electable replicas)
      ++ map (λ id. (id, choices.Unclean)) (filter (has facts.active) at_last)

-- the first candidate, or nobody
abbrev pub first_of : List (ℤ × Choice) → ℤ × Choice
first_of [] = (negsuc 0, choices.Nobody)
first_of (candidate ∷ others) = candidate

unfoldable pub elected : Partition → List ℤ → List ℤ → Mode → Option ℤ → Facts → ℤ × Choice
elected p replicas in_sync mode restarted facts = first_of (candidates p replicas in_sync mode restarted facts)
