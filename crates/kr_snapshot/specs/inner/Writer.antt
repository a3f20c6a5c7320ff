-- What a writer of batches has, and what is added to it.
use Rattle.std.specs.Prelude.{◌≡◌, ℕ, ◌+◌, ◌≤◌, pos, List, [], ◌++◌, length, sum_by, All, Some}
use Rattle.kr_defs.specs.declared.limits.TheConstants.{IMAGE_BATCH, MOST_CONFIG_TEXT}
use Rattle.kr_defs.specs.declared.record.Record.{Record}
use Rattle.kr_defs.specs.declared.record.Record.TheVariants as kinds
use Rattle.kr_defs.specs.declared.record.Item.{Item}
use Rattle.kr_defs.specs.declared.record.Item.TheVariants as items
use Rattle.kr_defs.specs.ImageLaws.{as_items}
use Rattle.kr_record.specs.Encodable.{IsEncodable, IsHeld}
use Rattle.kr_record.specs.Spelling.{record_value}
use Rattle.kr_batch.specs.BatchBytes.{fixed_bytes, records_bytes, whole_bytes}
use Rattle.kr_snapshot.specs.ImageText.{chunks, batches_bytes}
use Rattle.kr_snapshot.specs.declared.batch_writer.BatchWriter.{BatchWriter}

-- the text of a setting, which is limited over all settings of an image
abbrev pub setting_text : Record → ℕ
setting_text (kinds.Config kind name key (Some value)) = length name + length key + length value
setting_text other = 0

abbrev pub item_text : Item → ℕ
item_text (items.Record r) = setting_text r
item_text items.Control = 0

-- bytes of a record of an image beside the text of a setting
abbrev pub most_beside : ℕ
most_beside = 8192

-- the record can be written, and is small but for the text of a setting
pub record IsLight (r : Record) : Type 0 where
  pub encodable : IsEncodable r
  pub size : length (record_value r) ≤ most_beside + setting_text r

abbrev pub IsLightItem : Item → Type 0
IsLightItem (items.Record r) = IsLight r
IsLightItem items.Control = ⊥

abbrev pub texts : List Record → ℕ
texts records = sum_by setting_text records

-- These records are the writer's so far: the batches, and then those of the next batch, whose bytes are as they will stand in it.
pub record Stands (w : BatchWriter) (done : List Record) : Type 0 where
  -- the records of the next batch
  pub group : List Item
  pub few : length group ≤ IMAGE_BATCH
  pub each : All IsLightItem group
  pub text : sum_by item_text group ≤ texts done
  pub counted : w.count ≡ length group
  pub spelled : w.records.items ≡ records_bytes 0 group
  -- each record that was written takes a byte
  pub behind : w.before ≤ length w.body.items
  pub all : w.before + w.count ≡ length done
  -- with others behind them, too
  pub bytes : (more : List Item) → w.body.items ++ batches_bytes w.before (chunks IMAGE_BATCH (group ++ more)) ≡ batches_bytes 0 (chunks IMAGE_BATCH (as_items done ++ more))

-- the records of the next batch were written as a batch
pub record Puts (w after : BatchWriter) : Type 0 where
  pub body : after.body.items ≡ w.body.items ++ whole_bytes (pos w.before) (pos 0) (fixed_bytes w.count (pos 0) ++ w.records.items)
  pub before : after.before ≡ w.before + w.count
  pub count : after.count ≡ 0
  pub records : after.records.items ≡ []

-- the records were added
pub record Adds (w after : BatchWriter) (records : List Record) : Type 0 where
  pub stands : (done : List Record) → Stands w done → texts done + texts records ≤ MOST_CONFIG_TEXT → Stands after (done ++ records)
  -- their numbers fit their types, and their texts are UTF-8
  pub held : All IsHeld records

-- some of all records were added, and these are left
pub record IsAmid (w after : BatchWriter) (all left : List Record) : Type 0 where
  pub done : List Record
  pub parts : all ≡ done ++ left
  pub adds : Adds w after done

-- the records may be added to those so far
pub record MayAdd (w : BatchWriter) (records : List Record) : Type 0 where
  pub done : List Record
  pub stands : Stands w done
  pub light : All IsLight records
  pub little : texts done + texts records ≤ MOST_CONFIG_TEXT
