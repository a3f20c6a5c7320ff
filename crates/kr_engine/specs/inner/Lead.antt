-- What a Lead makes of an engine.
use Rattle.std.specs.Prelude.{◌≡◌, ℤ, pos, ◌+ℤ◌, int_lt, List, [], ◌∷◌, ◌++◌, not, ◌||◌, Option, Some, None, is_some, if◌then◌else◌}
use Rattle.std.specs.Ordering.{int_eq}
use Rattle.kr_calls.specs.declared.events.Reason.{Reason}
use Rattle.kr_defs.specs.declared.record.Item.TheVariants as items
use Rattle.kr_defs.specs.declared.record.Record.{Record}
use Rattle.kr_defs.specs.declared.record.Record.TheVariants as kinds
use Rattle.kr_defs.specs.Brokers.{stopping, unfenced}
use Rattle.kr_defs.specs.Heartbeats as hearing
use Rattle.kr_store.specs.Images.{Images, marked}
use Rattle.kr_model.specs.Entries.{item_entries}
use Rattle.kr_model.specs.Reasons.{already_leading, bad_next, exhausted, old_epoch}
use Rattle.kr_model.specs.World.{is_far}
use Rattle.kr_model.specs.Engine.{Core}
use Rattle.kr_engine.specs.inner.Append.{core_after_append_in}
use Rattle.kr_engine.specs.inner.Batch.{TakesItem}
use Rattle.kr_engine.specs.inner.Changes.{refused_core}

abbrev pub lead_reason : Core → ℤ → ℤ → Option Reason
lead_reason e epoch next =
    if is_some e.leading then Some (already_leading e.leading) else
    if not (int_lt e.greatest epoch) then Some (old_epoch epoch e.greatest) else
    if not (int_eq next e.committed || int_eq next (e.committed +ℤ pos 1)) then Some (bad_next next e.committed) else
    if is_far next then Some (exhausted next) else
    None

-- one place above the end stands an item of the quorum's own
abbrev pub core_up_to : Core → ℤ → Core
core_up_to e next = if int_eq next e.committed then e else record e {
  images = marked e.images next;
  tip = next;
  fresh = e.fresh ++ item_entries e.tip (items.Control ∷ []);
}

-- what gives up the open transaction
abbrev pub an_abort : Record
an_abort = kinds.AbortTransaction None

-- it is applied, and is a batch of its own in the epoch
pub record GivesUp (before after : Core) (epoch : ℤ) : Type 0 where
  pub images : Images
  pub takes : TakesItem before.images images before.tip (items.Record an_abort)
  pub same : after ≡ core_after_append_in (record before { images = images }) epoch (an_abort ∷ [])

-- so where a transaction is open
abbrev pub GivesUpOpen : Option ℤ → Core → Core → ℤ → Type 0
GivesUpOpen None before after epoch = after ≡ before
GivesUpOpen (Some begin) before after epoch = GivesUp before after epoch

-- this node leads, and hears of the unfenced brokers now
abbrev pub core_leading : Core → ℤ → ℤ → Core
core_leading e epoch next = record e {
  heard = hearing.begin (unfenced e.images.tip) (stopping e.images.tip) e.time next;
  leading = Some epoch;
  greatest = epoch;
  led = next;
}

pub record BeginsToLead (before after : Core) (epoch next : ℤ) : Type 0 where
  -- no transaction is open in it
  pub settled : Core
  pub gives_up : GivesUpOpen (core_up_to before next).images.begun (core_up_to before next) settled epoch
  pub leads : after ≡ core_leading settled epoch next

-- the Lead is refused, or taken
abbrev pub SettlesLead : Core → Core → ℤ → ℤ → Option Reason → Type 0
SettlesLead before after epoch next None = BeginsToLead before after epoch next
SettlesLead before after epoch next (Some reason) = after ≡ refused_core before reason
