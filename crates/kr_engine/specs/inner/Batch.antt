-- What a Batch makes of an engine: on standby, a committed batch of another leader.
use Rattle.std.specs.Prelude.{◌≡◌, ◌≤◌, ◌+ℤ◌, ℤ, pos, List, [], ◌∷◌, length, not, is_some, Option, Some, None, Result, Ok, Err, if◌then◌else◌}
use Rattle.std.specs.Ordering.{int_eq}
use Rattle.kr_calls.specs.declared.events.Reason.{Reason}
use Rattle.kr_defs.specs.declared.ill.Ill.{Ill}
use Rattle.kr_defs.specs.declared.record.Item.{Item}
use Rattle.kr_defs.specs.LogStates.{apply_at, first_ill_at}
use Rattle.kr_batch.specs.declared.Batch.{Batch}
use Rattle.kr_batch.specs.declared.fault.BatchFault.{BatchFault}
use Rattle.kr_store.specs.Images.{Images, AreValid, log_place, tip_state}
use Rattle.kr_store.specs.ItemAnswers.{KeepsEpochs, made_at, with_begin}
use Rattle.kr_model.specs.Batch.{end_of}
use Rattle.kr_model.specs.Engine.{Core}
use Rattle.kr_model.specs.Entries.{item_entries}
use Rattle.kr_model.specs.Reasons.{already_leading, bad_batch, exhausted, gap, ill_formed}
use Rattle.kr_model.specs.World.{is_far}
use Rattle.kr_engine.specs.inner.Changes.{core_with_entries, refused_core}
use Rattle.kr_engine.specs.inner.Settled.{core_moved}

-- ---- items one behind the other

-- the present state is what the item, which stands at the place, makes of the one before
pub record TakesItem (before after : Images) (place : ℤ) (item : Item) : Type 0 where
  pub applied : apply_at (tip_state before) (log_place place) item ≡ Ok (tip_state after)
  pub epochs : KeepsEpochs after (with_begin before place item)
  pub made : after.made ≤ made_at before place item
  pub valid : AreValid after

-- it is, or the item has no meaning and nothing has changed
abbrev pub IsTaken : Images → Images → ℤ → Item → Option Ill → Type 0
IsTaken before after place item None = TakesItem before after place item
IsTaken before after place item (Some cause) = (apply_at (tip_state before) (log_place place) item ≡ Err cause) × (after ≡ before)

-- so with each of the items, the first of which stands at the place
abbrev pub TakesItems : Images → Images → ℤ → List Item → Type 0
TakesItems before after place [] = after ≡ before
TakesItems before after place (item ∷ items) = (between : Images) × TakesItem before between place item × TakesItems between after (place +ℤ pos 1) items

-- ---- the batch

abbrev pub items_reason : Option (ℤ × Ill) → Option Reason
items_reason None = None
items_reason (Some (place, cause)) = Some (ill_formed place cause)

abbrev pub first_ill_of : Core → List Item → Option (ℤ × Ill)
first_ill_of e items = first_ill_at (tip_state e.images) (log_place e.tip) items

abbrev pub decoded_batch_reason : Core → Batch → Option Reason
decoded_batch_reason e batch =
    if not (int_eq batch.base e.committed) then Some (gap e.committed batch.base) else
    if is_far (end_of batch) then Some (exhausted (end_of batch)) else
    items_reason (first_ill_of e batch.items)

abbrev pub read_batch_reason : Core → Result Batch BatchFault → Option Reason
read_batch_reason e (Ok batch) = decoded_batch_reason e batch
read_batch_reason e (Err fault) = Some (bad_batch fault)

abbrev pub batch_reason : Core → Result Batch BatchFault → Option Reason
batch_reason e read = if is_some e.leading then Some (already_leading e.leading) else read_batch_reason e read

-- the items are committed, up to the end
pub record Follows (before after : Core) (items : List Item) (end : ℤ) : Type 0 where
  pub some : 1 ≤ length items
  -- those behind the items
  pub images : Images
  pub takes : TakesItems before.images images before.tip items
  pub same : after ≡ core_moved (core_with_entries (record before { images = images }) (item_entries before.tip items)) end

-- the items are refused, or committed
abbrev pub SettlesItems : Core → Core → List Item → ℤ → Option Reason → Type 0
SettlesItems before after items end None = Follows before after items end
SettlesItems before after items end (Some reason) = after ≡ refused_core before reason

-- so the batch that was read; what is no batch is always refused
abbrev pub FollowsRead : Core → Core → Result Batch BatchFault → Type 0
FollowsRead before after (Ok batch) = Follows before after batch.items (end_of batch)
FollowsRead before after (Err fault) = ⊥

abbrev pub SettlesBatch : Core → Core → Result Batch BatchFault → Option Reason → Type 0
SettlesBatch before after read None = FollowsRead before after read
SettlesBatch before after read (Some reason) = after ≡ refused_core before reason
