-- Lead: a leadership begins, at the committed end, which is the tip on standby, or one above. A transaction that another leader left
-- open is given up (KIP-868).
use Rattle.std.specs.Prelude.{ℤ, pos, ◌+◌, int_lt, List, [], ◌∷◌, Bool, not, ◌||◌, is_some, Some, None, Result, Ok, if◌then◌else◌}
use Rattle.std.specs.Ordering.{int_eq}
use Rattle.kr_calls.specs.declared.events.Reason.{Reason}
use Rattle.kr_defs.specs.declared.record.Item.TheVariants as items
use Rattle.kr_defs.specs.declared.record.Record.{Record}
use Rattle.kr_defs.specs.declared.record.Record.TheVariants as kinds
use Rattle.kr_defs.specs.Brokers.{stopping, unfenced}
use Rattle.kr_defs.specs.Guard.{refuse◌when◌else◌}
use Rattle.kr_defs.specs.Heartbeats.{begin}
use Rattle.kr_defs.specs.Image.{Image}
use Rattle.kr_defs.specs.Log.{open_at, tip}
use Rattle.kr_model.specs.Reasons.{already_leading, bad_next, exhausted, old_epoch}
use Rattle.kr_model.specs.World.{World, State, with_heartbeats, is_far, seen_at, with_batch, with_records}

-- it begins at the committed end, or one above, where the quorum wrote an item of its own
abbrev pub may_begin_at : World → ℤ → Bool
may_begin_at w next = int_eq next (pos w.committed) || int_eq next (pos (w.committed + 1))

-- that item is a batch of its own
abbrev pub up_to : World → ℤ → World
up_to w next = if int_eq next (pos w.committed) then w else with_batch w (items.Control ∷ [])

-- this node leads, and nobody is heard of yet
abbrev pub taking_over : State → ℤ → ℤ → State
taking_over s epoch next = record s { world = record (up_to s.world next) { leading = Some epoch; greatest = epoch } }

-- the record that gives up the transaction that is open at the tip
abbrev pub giving_up : World → List Record
giving_up w = if is_some (open_at w.log (tip w.log)) then kinds.AbortTransaction None ∷ [] else []

-- it is a batch of its own
abbrev pub in_lead : State → ℤ → ℤ → World
in_lead s epoch next = let w : World = (taking_over s epoch next).world in with_records w (giving_up w)

-- the unfenced brokers of the image behind it count as heard of now; those of them that are stopping began at this place
abbrev pub after_lead : State → ℤ → ℤ → State
after_lead s epoch next =
    let w : World = in_lead s epoch next in
    let image : Image = seen_at w.log (tip w.log) in record {
      world = w;
      basis = record (with_heartbeats s.basis (begin (unfenced image) (stopping image) s.basis.time next)) { led = next };
    }

abbrev pub lead : State → ℤ → ℤ → Result State Reason
lead s epoch next =
    refuse already_leading s.world.leading when is_some s.world.leading else
    refuse old_epoch epoch s.world.greatest when not (int_lt s.world.greatest epoch) else
    refuse bad_next next (pos s.world.committed) when not (may_begin_at s.world next) else
    refuse exhausted next when is_far next else
    Ok (after_lead s epoch next)
