-- How many partitions prefer each broker, and how many of those are imbalanced, as a map from brokers.
use Rattle.std.specs.Prelude.{◌≡◌, ◌+◌, ℕ, ℤ, Bool, List, unwrap_or, if◌then◌else◌}
use Rattle.std.specs.Ordering.{int_cmp}
use Rattle.kr_defs.specs.Image.{Image}
use Rattle.kr_defs.specs.Map as entries
use Rattle.kr_balance.specs.Plan.{imbalanced, preferring}
use Rattle.kr_balance.specs.declared.counts.Tally.{Tally}

abbrev pub empty_tally : Tally
empty_tally = record { preferring = 0; imbalanced = 0 }

abbrev pub tally_of : List (ℤ × Tally) → ℤ → Tally
tally_of tallies broker = unwrap_or (entries.get int_cmp tallies broker) empty_tally

abbrev pub one_more : Tally → Bool → Tally
one_more t is_imbalanced = record { preferring = t.preferring + 1; imbalanced = if is_imbalanced then t.imbalanced + 1 else t.imbalanced }

-- one partition more that prefers the broker
abbrev pub with_one : List (ℤ × Tally) → ℤ → Bool → List (ℤ × Tally)
with_one tallies broker is_imbalanced = entries.insert int_cmp tallies broker (one_more (tally_of tallies broker) is_imbalanced)

-- what the image says of every broker
abbrev pub Counts : Image → List (ℤ × Tally) → Type 0
Counts image tallies = (broker : ℤ) → tally_of tallies broker ≡ record { preferring = preferring image broker; imbalanced = imbalanced image broker }
