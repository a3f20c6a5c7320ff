-- What topics and their partitions give, in walking order. This project's own.
use Rattle.std.specs.Prelude.{ℕ, ℤ, List, [], ◌++◌, flat_map, map, Option, Some}
use Rattle.std.specs.Option.{option_map_or}
use Rattle.kr_defs.specs.declared.partition.Partition.{Partition}
use Rattle.kr_defs.specs.Image.{Image}
use Rattle.kr_defs.specs.Map.{above, get, partition_order, text_order}
use Rattle.kr_defs.specs.Walk.{Walked, of_topic, walk_topic, walked}

-- the partitions of one topic above a key
abbrev pub listed_above : {Y : Type 0} → (Walked → Y) → List ((ℕ × ℤ) × Partition) → List ℕ → ℕ × ℤ → List Y
listed_above rows partitions name key = map (λ e. rows (walked name e)) (of_topic key.0 (above partition_order partitions (Some key)))

module _ {Y : Type 0} (heads : List ℕ × ℕ → List Y) (rows : Walked → Y) where
  -- a topic, and then its partitions
  abbrev pub listed : List ((ℕ × ℤ) × Partition) → List ℕ × ℕ → List Y
  listed partitions topic = heads topic ++ map rows (walk_topic partitions topic)

  -- the partitions of one topic behind an index
  abbrev pub rest_of_topic : Image → List ℕ → ℤ → ℕ → List Y
  rest_of_topic image name index id = listed_above rows image.partitions name (id, index)

  -- those of the topic of this name, where there is one
  abbrev pub listed_rest : Image → List ℕ → ℤ → List Y
  listed_rest image name index = option_map_or (rest_of_topic image name index) (get text_order image.topics name) []

  -- the topics behind a name, each with its partitions
  abbrev pub listed_topics : Image → Option (List ℕ) → List Y
  listed_topics image after = flat_map (listed image.partitions) (above text_order image.topics after)

  -- the rest of a topic, and then the topics behind it
  abbrev pub listed_behind : Image → List ℕ → ℤ → List Y
  listed_behind image name index = listed_rest image name index ++ listed_topics image (Some name)
