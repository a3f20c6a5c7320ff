-- How many entries of an image an item writes (this project's own measure).
use Rattle.std.specs.Prelude.{ℕ, ◌+◌, ◌==◌, Some, None, count_by}
use Rattle.kr_defs.specs.declared.record.Record.{Record}
use Rattle.kr_defs.specs.declared.record.Record.TheVariants as kinds
use Rattle.kr_defs.specs.declared.record.Item.{Item}
use Rattle.kr_defs.specs.declared.record.Item.TheVariants as items
use Rattle.kr_defs.specs.Image.{Image, topic_name}
use Rattle.kr_defs.specs.Apply.{is_setting_of}

-- the settings that go with a topic
abbrev pub settings_removed : Image → ℕ → ℕ
settings_removed image id = elim (topic_name image.topics id) [
  | None ↦ 0
  | Some name ↦ count_by (λ e. is_setting_of name e.0) image.configs
]

-- the partitions that go with a topic
abbrev pub partitions_removed : Image → ℕ → ℕ
partitions_removed image id = count_by (λ e. e.0.0 == id) image.partitions

-- a topic is kept by name and by id
abbrev pub record_weight : Image → Record → ℕ
record_weight image (kinds.Topic name id) = 2
record_weight image (kinds.RemoveTopic topic) = 2 + partitions_removed image topic + settings_removed image topic
-- a transaction's beginning keeps its place in each of six maps, and two counts with it
record_weight image (kinds.BeginTransaction name) = 8
record_weight image _ = 1

unfoldable pub weight : Image → Item → ℕ
weight image items.Control = 1
weight image (items.Record r) = record_weight image r
