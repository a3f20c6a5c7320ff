-- What an event adds to the log: the items that stand behind the tip before, with their places; or an image in place of all
-- that was before.
use Rattle.std.specs.Prelude.{ℕ, pos, ◌-◌, List, [], ◌∷◌, drop, Result, Ok, Err}
use Rattle.kr_calls.specs.declared.events.Entry.{Entry}
use Rattle.kr_calls.specs.declared.events.Event.{Event}
use Rattle.kr_calls.specs.declared.events.Reason.{Reason}
use Rattle.kr_calls.specs.declared.events.Entry.TheVariants as entries
use Rattle.kr_calls.specs.declared.events.Event.TheVariants as events
pub use Rattle.kr_calls.specs.SeatList.{item_entries}
use Rattle.kr_defs.specs.declared.options.Options.{Options}
use Rattle.kr_defs.specs.declared.record.Item.{Item}
use Rattle.kr_defs.specs.Log.{Log}
use Rattle.kr_defs.specs.Records.{records_of}
use Rattle.kr_model.specs.Events.{outcome, at_time_of}
use Rattle.kr_model.specs.World.{State, tip_of}

-- the items of a log at the place and above
abbrev pub items_from : Log → ℕ → List Item
items_from log place = drop (place - log.offset) log.items

-- an image has its records in the order in which it is written
abbrev pub entries_added : State → Event → State → List Entry
entries_added s (events.Load bytes) after = entries.Load (pos after.world.log.offset) (records_of after.world.log.image) ∷ []
entries_added s other after = item_entries (pos (tip_of s)) (items_from after.world.log (tip_of s))

-- a refused event adds nothing
abbrev pub entries_by : State → Event → Result State Reason → List Entry
entries_by s event (Ok after) = entries_added s event after
entries_by s event (Err reason) = []

abbrev pub log_entries : Options → State → Event → List Entry
log_entries options s event = entries_by s event (outcome options (at_time_of s event) event)
