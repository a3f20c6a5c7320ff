-- What is planned, by tallies of the brokers.
use Rattle.std.specs.Prelude.{ℕ, ℤ, ◌*◌, nat_lt, Bool, ◌&&◌, List, [], ◌∷◌, flat_map, if◌then◌else◌}
use Rattle.kr_defs.specs.declared.partition.Partition.{Partition}
use Rattle.kr_defs.specs.Image.{Image}
use Rattle.kr_defs.specs.Walk.{of_topic}
use Rattle.kr_balance.specs.Plan.{is_imbalanced, preferred_leader}
use Rattle.kr_balance.specs.declared.counts.Tally.{Tally}
use Rattle.kr_balance.specs.inner.Tallies.{tally_of}

abbrev pub is_over : ℕ → Tally → Bool
is_over percent t = nat_lt (percent * t.preferring) (t.imbalanced * 100)

abbrev pub is_planned_by : Image → List (ℤ × Tally) → ℕ → Partition → Bool
is_planned_by image tallies percent p = is_imbalanced image p && is_over percent (tally_of tallies (preferred_leader p))

abbrev pub planned_row : Image → List (ℤ × Tally) → ℕ → List ℕ → (ℕ × ℤ) × Partition → List (List ℕ × ℤ)
planned_row image tallies percent name e = if is_planned_by image tallies percent e.1 then (name, e.0.1) ∷ [] else []

abbrev pub planned_rows : Image → List (ℤ × Tally) → ℕ → List ℕ × ℕ → List (List ℕ × ℤ)
planned_rows image tallies percent topic =
    flat_map (planned_row image tallies percent topic.0) (of_topic topic.1 image.partitions)
