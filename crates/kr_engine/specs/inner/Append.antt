-- What a leader's records make of an engine: one batch at the tip, where there are any.
use Rattle.std.specs.Prelude.{◌≡◌, ◌+◌, ◌+ℤ◌, ◌==◌, ℕ, ℤ, pos, List, [], ◌∷◌, ◌++◌, length, Option, Ok, ◌≤◌, if◌then◌else◌}
use Rattle.kr_batch.specs.declared.Batch.{Batch}
use Rattle.kr_batch.specs.BatchBytes.{batch_bytes}
use Rattle.kr_calls.specs.declared.events.Output.{Output}
use Rattle.kr_calls.specs.declared.events.Output.TheVariants as given
use Rattle.kr_calls.specs.Deciding.{apply_records, weights}
use Rattle.kr_defs.specs.declared.record.Record.{Record}
use Rattle.kr_defs.specs.Heartbeats.{leave}
use Rattle.kr_defs.specs.Image.{Image}
use Rattle.kr_defs.specs.ImageLaws.{as_items}
use Rattle.kr_store.specs.Images.{Images, IsSettled, marked}
use Rattle.kr_model.specs.Engine.{Core}
use Rattle.kr_model.specs.Entries.{item_entries}
use Rattle.kr_model.specs.Reasons.{led_epoch}
use Rattle.kr_model.specs.Tick.{fencing_of}

-- records as a batch at the tip, in the epoch, at the greatest time
abbrev pub batch_in : Core → ℤ → List Record → Batch
batch_in e epoch records = record { base = e.tip; epoch = epoch; time = e.time; items = as_items records }

-- in the led epoch
abbrev pub batch_at : Core → List Record → Batch
batch_at e records = batch_in e (led_epoch e.leading) records

abbrev pub place_behind : Core → List Record → ℤ
place_behind e records = e.tip +ℤ pos (length records)

-- an engine whose present image is the one behind the records
abbrev pub core_after_append_in : Core → ℤ → List Record → Core
core_after_append_in e epoch records = if length records == 0 then e else record e {
  images = marked e.images (place_behind e records);
  tip = place_behind e records;
  given = e.given ++ given.Append (batch_bytes (batch_in e epoch records)) ∷ [];
  fresh = e.fresh ++ item_entries e.tip (as_items records);
}

abbrev pub core_after_append : Core → List Record → Core
core_after_append e records = core_after_append_in e (led_epoch e.leading) records

abbrev pub append_output : Core → List Record → List Output
append_output e records = if length records == 0 then [] else given.Append (batch_bytes (batch_at e records)) ∷ []

-- ---- what becomes of an engine whose present image was the one below the records

abbrev pub kept_behind : Core → List Record → Image → List (ℤ × Image)
kept_behind e records image = if length records == 0 then e.images.kept else e.images.kept ++ (place_behind e records, image) ∷ []

abbrev pub begins_behind : Core → List Record → Option ℤ → List (ℤ × Option ℤ)
begins_behind e records begun = if length records == 0 then e.images.kept_begun else e.images.kept_begun ++ (place_behind e records, begun) ∷ []

-- the calls of a batch are counted under its end: at most as many as its records weigh
abbrev pub CallsAreCounted : Images → Images → ℤ → List Record → Type 0
CallsAreCounted before after place [] = (after.made ≤ before.made) × (after.kept_made ≡ before.kept_made)
CallsAreCounted before after place (r ∷ records) =
    (after.made ≡ 0) × ((made : ℕ) × (made ≤ before.made + weights before.tip (r ∷ records)) × (after.kept_made ≡ before.kept_made ++ (place, made) ∷ []))

pub record Writes (before after : Core) (records : List Record) : Type 0 where
  pub meaning : apply_records before.images.tip records ≡ Ok after.images.tip
  pub kept : after.images.kept ≡ kept_behind before records after.images.tip
  pub begins : after.images.kept_begun ≡ begins_behind before records after.images.begun
  pub settled : IsSettled before.images → IsSettled after.images
  pub counted : CallsAreCounted before.images after.images (place_behind before records) records
  pub few : length records ≤ 10000
  -- the contacts and the writes that wait are said apart
  pub same : after ≡ record before {
    images = after.images;
    tip = place_behind before records;
    given = before.given ++ append_output before records;
    fresh = before.fresh ++ item_entries before.tip (as_items records);
    heard = after.heard;
    held = after.held;
  }

-- a broker is fenced, where it is registered, and leaves the contacts
pub record Fences (before after : Core) (broker : ℤ) : Type 0 where
  pub writes : Writes before after (fencing_of before.options before.images.tip broker)
  pub heard : after.heard ≡ leave before.heard broker
  pub held : after.held ≡ before.held
