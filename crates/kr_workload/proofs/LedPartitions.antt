-- The count of partitions with a leader, as far as a walk has come.
use Rattle.std.proofs.Common.{◌≡◌, ◌≤◌, ℕ, ℤ, ◌+◌, Bool, true, false, cond, List, ◌∷◌, length, sym, ap, ◌∙◌, refl, arith}
use Rattle.std.specs.Prelude.{Option, Some, None, filter}
use Rattle.kr_defs.specs.declared.partition.Partition.{Partition}
use Rattle.kr_defs.specs.Map.{IsMap, above, next, partition_order}
use Rattle.kr_defs.proofs.ImageParts.{partition_total}
use Rattle.kr_defs.proofs.Maps.{length-filter_le}
use Rattle.kr_defs.proofs.Walks.{walk_end, walk_next}
use Rattle.kr_workload.specs.Summary.{is_led_entry}
use Rattle.kr_workload.specs.inner.Counting.{led_with}
use Rattle.kr_workload.specs.Requests.{has_leader}

abbrev Entry : Type 0
Entry = (ℕ × ℤ) × Partition

abbrev pub led_left : List Entry → Option (ℕ × ℤ) → ℕ
led_left ps after = length (filter is_led_entry (above partition_order ps after))

one_counted : (b : Bool) (e : Entry) (es : List Entry) (led : ℕ) → cond b (led + 1) led + length es ≡ led + length (cond b (e ∷ es) es)
one_counted true e es led = omega arith
one_counted false e es led = refl

module _ (ps : List Entry) (ordered : IsMap partition_order ps) (after : Option (ℕ × ℤ)) where
  pub led_more : (e : Entry) → Some e ≡ next partition_order ps after → (led : ℕ) → led_with led e.1 + led_left ps (Some e.0) ≡ led + led_left ps after
  led_more e found led =
      one_counted (has_leader e.1) e (filter is_led_entry (above partition_order ps (Some e.0))) led
      ∙ ap (λ (es : List Entry). led + length (filter is_led_entry es)) (sym (walk_next partition_total ps after e ordered (sym found)))

  pub led_over : None ≡ next partition_order ps after → (led all : ℕ) → led + led_left ps after ≡ all → led ≡ all
  led_over none led all told =
      let end = ap (λ (es : List Entry). length (filter is_led_entry es)) (walk_end (above partition_order ps after) (sym none)) in
      omega (arith, told, end)

pub few_led : (ps : List Entry) → length (filter is_led_entry ps) ≤ length ps
few_led ps = length-filter_le is_led_entry ps
