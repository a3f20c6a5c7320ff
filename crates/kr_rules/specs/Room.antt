-- Whether an image has room for records, told before any of them is applied. This project's own.
use Rattle.std.specs.Prelude.{◌≡◌, ◌+◌, ◌-◌, ℕ, ℤ, Bool, true, false, not, ◌||◌, nat_le, nat_lt, cond, List, length, Option, Some, None, unwrap_or, Result, Ok, Err, IsErr}
use Rattle.std.specs.List.{list_all}
use Rattle.std.specs.Option.{option_map}
use Rattle.kr_defs.specs.declared.ill.Ill.{Ill}
use Rattle.kr_defs.specs.declared.ill.Ill.TheVariants as causes
use Rattle.kr_defs.specs.declared.limits.TheConstants.{MOST_TOPICS, MOST_PARTITIONS, MOST_CONFIG_TEXT}
use Rattle.kr_defs.specs.declared.record.ConfigKey.{ConfigKey}
use Rattle.kr_defs.specs.declared.record.Record.{Record}
use Rattle.kr_defs.specs.declared.record.Record.TheVariants as kinds
use Rattle.kr_defs.specs.Image.{Image, entry_text, is_index}
use Rattle.kr_defs.specs.Map as entries
use Rattle.kr_defs.specs.Map.{config_order}

-- a topic, a partition, a change of one, or a setting
abbrev pub takes_room : Record → Bool
takes_room (kinds.Topic name id) = true
takes_room (kinds.Partition index topic state) = true
takes_room (kinds.PartitionChange index topic change) = true
takes_room (kinds.Config kind name key value) = true
takes_room other = false

-- there is no room for a record: a limit of images is passed, or an index of a partition is too great
abbrev pub lacks_room : Result Image Ill → Bool
lacks_room (Ok image) = false
lacks_room (Err causes.Limit) = true
lacks_room (Err causes.BadNumber) = true
lacks_room (Err other) = false

-- One record after the other is looked at: how many topics and partitions there are behind them, and how much text of
-- settings. Each setting that they give stands in `given` with the bytes of its text, and with 0 where it goes.
pub record Filling : Type 0 where
  pub topics : ℕ
  pub partitions : ℕ
  pub text : ℕ
  pub given : List (ConfigKey × ℕ)

-- the bytes of a setting's text, where it has a value
abbrev pub value_text : ConfigKey → Option (List ℕ) → ℕ
value_text key value = unwrap_or (option_map (entry_text key) value) 0

-- with a topic more, where there is room for it
abbrev pub with_topic : Filling → Option Filling
with_topic f = cond (nat_le MOST_TOPICS f.topics) None (Some (record f { topics = f.topics + 1 }))

-- with a partition of this index more, where this is an index of one and there is room
abbrev pub with_partition : Filling → ℤ → Option Filling
with_partition f index = cond (not (is_index index) || nat_le MOST_PARTITIONS f.partitions) None (Some (record f { partitions = f.partitions + 1 }))

module _ (configs : List (ConfigKey × List ℕ)) where
  -- the text of a setting behind the records, with these settings before them
  abbrev pub text_at : List (ConfigKey × ℕ) → ConfigKey → ℕ
  text_at given key = unwrap_or (entries.get config_order given key) (value_text key (entries.get config_order configs key))

  abbrev pub with_text : Filling → ConfigKey → ℕ → Option Filling
  with_text f key text =
      let all = f.text - text_at f.given key + text in
      cond (nat_lt MOST_CONFIG_TEXT all) None (Some (record f { text = all; given = entries.insert config_order f.given key text }))

  -- with a plain record more, where there is room for it
  abbrev pub filled : Filling → Record → Option Filling
  filled f (kinds.Topic name id) = with_topic f
  filled f (kinds.Partition index topic state) = with_partition f index
  filled f (kinds.Config kind name key value) =
      let at : ConfigKey = record { kind = kind; name = name; key = key } in with_text f at (value_text at value)
  filled f other = Some f

-- there is room, and this is behind the record; or there is none
abbrev pub Fills : Option Filling → Bool → Filling → Type 0
Fills more true after = more ≡ Some after
Fills more false after = more ≡ None

-- where there is no room, some record has no meaning; where there is, plain records don't lack it
abbrev pub TellsRoom : List Record → Result Image Ill → Bool → Type 0
TellsRoom records meaning true = list_all takes_room records ≡ true → lacks_room meaning ≡ false
TellsRoom records meaning false = IsErr meaning
