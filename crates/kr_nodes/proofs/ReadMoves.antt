-- What a node appends in a move is read back.
use Rattle.std.proofs.Common.{◌≡◌, ◌∙◌, sym, subst, ℕ, ℤ, ◌≤◌, Bool, List, ap}
use Rattle.std.specs.Prelude.{FitsSigned, IfSome, Option, Some, Result, Ok, Err, unsigned_abs}
use Rattle.std.specs.Int.{w32, w64}
use Rattle.std.specs.List.{AllByRecursion, slice_get}
use Rattle.std.specs.Result.{result_unwrap_or}
use Rattle.std.proofs.lemmas.List.Elements.{recursion_from_All}
use Rattle.kr_calls.specs.declared.events.Event.{Event}
use Rattle.kr_calls.specs.declared.events.Reason.{Reason}
use Rattle.kr_defs.specs.declared.limits.TheConstants.{PLACES_END}
use Rattle.kr_defs.specs.declared.options.Options.{Options}
use Rattle.kr_model.specs.Entries.{entries_added, log_entries}
use Rattle.kr_model.specs.Events.{at_time_of, outcome, time_after, with_next_number}
use Rattle.kr_model.specs.World.{State, tip_of}
use Rattle.kr_model.proofs.EventOutcomes.{entries_accepted}
use Rattle.law_nodes.specs.NodeEvents.{writes_in}
use Rattle.law_nodes.specs.Nodes.{Run, RunNode}
use Rattle.law_nodes.specs.ReadingBack.{IsHeldEntry}
use Rattle.law_nodes.proofs.ReadBatches.{appends_read_back}
use Rattle.kr_nodes.specs.declared.node.Node.{Node}
use Rattle.kr_nodes.specs.declared.told.ToldReply.{ToldReply}
use Rattle.kr_nodes.specs.inner.Acting.{IsReached}
use Rattle.kr_nodes.specs.inner.Taking.{NodeTakes}
use Rattle.kr_nodes.proofs.Takings.{ReadBy, TakenNode, stepped_stands}

led_so : (o : Option ℤ) → IfSome o (λ epoch. FitsSigned w32 epoch) → (epoch : ℤ) → o ≡ Some epoch → FitsSigned w32 epoch
led_so o fits epoch is = subst (λ (x : Option ℤ). IfSome x (λ e. FitsSigned w32 e)) is fits

pub reads_back : (options : Options) (r : Run) (k : ℕ) (n : RunNode) (event : Event) (before after : Node) (is_write : Bool) (told told' : List ToldReply) (t : NodeTakes k before after is_write told told' event) (s : TakenNode options n before)
    → IsReached options r → slice_get r.nodes k ≡ Some n → FitsSigned w64 (time_after n.state.basis.time event) → (q : Result State Reason) → outcome options (at_time_of n.state event) event ≡ q → ReadBy options n event q
reads_back options r k n event before after is_write told told' t s reached is fits (Err reason) got = tt
reads_back options r k n event before after is_write told told' t s reached is fits (Ok state) got =
    let fresh : t.stepped.fresh ≡ entries_added n.state event state =
    t.step.fresh n.state (writes_in n.waiting) s.engine
    ∙ (ap (λ (o : Options). log_entries o n.state event) s.options_are ∙ entries_accepted before.engine options n.state (writes_in n.waiting) event state got) in
    let low = (stepped_stands options k n event before after is_write told told' t s).is_state.low in
    appends_read_back options reached.nodes reached.past k n event state (sym (ap (λ (x : Run). slice_get x.nodes k) reached.is) ∙ is) got (record {
      added = subst (AllByRecursion IsHeldEntry) fresh (recursion_from_All IsHeldEntry t.stepped.fresh t.has.held);
      low = subst (λ (q : Result State Reason). tip_of (with_next_number (result_unwrap_or q (at_time_of n.state event))) ≤ unsigned_abs PLACES_END) got low;
      epoch = λ epoch led. led_so before.engine.leading t.led epoch (s.engine.leading ∙ led);
      time = fits;
    })
