-- Topics: how many partitions one counts (this project's own), and how a request names one (Kafka's requests).
use Rattle.std.specs.Prelude.{ℕ, ◌+◌, ℤ, Bool, not, ◌&&◌, ◌||◌, ◌==◌, max, List, fold, unsigned_abs, Option, is_some, is_none}
use Rattle.kr_defs.specs.declared.partition.Partition.{Partition}
use Rattle.kr_defs.specs.Image.{Image}
use Rattle.kr_defs.specs.Walk.{of_topic}

-- one more than the greatest index of the topic's partitions, 0 where it has none
abbrev pub count_of : Image → ℕ → ℕ
count_of image id = fold (λ (count : ℕ) (e : (ℕ × ℤ) × Partition). max count (unsigned_abs e.0.1 + 1)) 0 (of_topic id image.partitions)

-- either by its name or by its id; no name and the id zero name nothing
abbrev pub is_named_once : Option (List ℕ) → ℕ → Bool
is_named_once name id = is_some name && id == 0 || is_none name && not (id == 0)
