-- The brokers of a placement, one after the other.
use Rattle.std.proofs.Common.{◌≡◌, ◌∙◌, ℕ, ℤ, ◌+◌, ◌<◌, Bool, true, false, List, [], ◌∷◌, ◌++◌, length, drop, get_or, Option, None, sym, ap}
use Rattle.std.specs.Prelude.{if◌then◌else◌}
use Rattle.std.specs.List.{list_any}
use Rattle.std.specs.Ordering.{int_eq}
use Rattle.std.proofs.lemmas.List.{at_drop_more}
use Rattle.kr_defs.specs.Placed.{Rack}
use Rattle.kr_door_loop.specs.declared.placements.PlaceBroker.{PlaceBroker}
use Rattle.kr_door_loop.specs.Placements.{racked_brokers}

module _ (before : List (ℤ × Rack)) (rows : List PlaceBroker) (i : ℕ) (b : PlaceBroker) (low : i < length rows) (is : b ≡ get_or rows i b) where
  step : racked_brokers before (drop i rows) ≡ racked_brokers before (b ∷ drop (i + 1) rows)
  step = at_drop_more (racked_brokers before) rows i b low ∙ ap (λ (x : PlaceBroker). racked_brokers before (x ∷ drop (i + 1) rows)) (sym is)

  chosen : Bool → Option (List (ℤ × Rack))
  chosen stands = if stands then None else racked_brokers (before ++ (b.id, b.rack) ∷ []) (drop (i + 1) rows)

  pub twice : list_any (λ broker. int_eq b.id broker.0) before ≡ true → None ≡ racked_brokers before (drop i rows)
  unfolding chosen
  twice found = sym (step ∙ ap chosen found)

  pub once : list_any (λ broker. int_eq b.id broker.0) before ≡ false → racked_brokers before (drop i rows) ≡ racked_brokers (before ++ (b.id, b.rack) ∷ []) (drop (i + 1) rows)
  unfolding chosen
  once found = step ∙ ap chosen found
