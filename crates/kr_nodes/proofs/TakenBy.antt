-- What a step, what is noted of it, and what is handed out make of a node.
use Rattle.std.proofs.Common.{◌≡◌, ◌∙◌, sym, subst, ℕ, Bool, List, [], ap}
use Rattle.std.specs.Prelude.{FitsSigned, IfSome}
use Rattle.std.specs.Int.{w32}
use Rattle.kr_calls.specs.declared.events.Event.{Event}
use Rattle.kr_defs.specs.declared.record.Item.{Item}
use Rattle.kr_model.specs.Engine.{Core, IsEngine, IsStep, told_left}
use Rattle.kr_model.proofs.OutputsLeft.{handing_out_stands}
use Rattle.kr_nodes.specs.declared.handing.Pending.{Pending}
use Rattle.kr_nodes.specs.declared.node.Node.{Node}
use Rattle.kr_nodes.specs.declared.shared.ListBatch.{ListBatch}
use Rattle.kr_nodes.specs.declared.told.ToldReply.{ToldReply}
use Rattle.kr_nodes.specs.inner.Handing.{Handed, HandsOut, after_outputs, handed_over}
use Rattle.kr_nodes.specs.inner.Taking.{NodeTakes, NotesAdded, handed_noted}

pub takes_by : (number : ℕ) (before : Node) (stepped : Core) (between : Node) (engine : Core) (pending : Pending) (is_write : Bool) (told told' : List ToldReply) (event : Event) → IfSome before.engine.leading (λ epoch. FitsSigned w32 epoch) → IsStep before.engine stepped event
    → NotesAdded is_write (record before { engine = stepped }) between → HandsOut number between.engine engine (handed_over between.pending told) (handed_over pending told')
    → NodeTakes number before (record { engine = engine; pending = pending; settled = between.settled; fed = between.fed; sent = between.sent }) is_write told told' event
takes_by number before stepped between engine pending is_write told told' event led step note hands =
    let same = note.engine in
    let kept : handed_over between.pending told ≡ handed_noted is_write stepped.fresh (handed_over before.pending told) =
    ap (λ (l : List ListBatch). record { unsettled = l; waiting = between.pending.waiting.items; told = told }) note.unsettled
    ∙ ap (λ (l : List (List Item)). record { unsettled = before.pending.unsettled.items; waiting = l; told = told }) note.waiting in
    record {
      stepped = stepped;
      step = step;
      has = note.has;
      led = led;
      options = hands.options ∙ ap (λ (e : Core). e.options) same;
      stands = λ s writes k. hands.stands s writes (subst (λ (e : Core). IsEngine e s writes) (sym same) (handing_out_stands stepped stepped.given stepped.refusal [] s writes k));
      drained = hands.drained;
      all =
          hands.all
          ∙ (ap (λ (e : Core). after_outputs number (handed_over between.pending told) (told_left e)) same
          ∙ ap (λ (h : Handed). after_outputs number h (told_left stepped)) kept);
      places = record { settled = note.places.settled; fed = note.places.fed; sent = note.places.sent };
    }
