-- What one event leaves of all nodes, and of what they share.
use Rattle.std.proofs.Common.{◌≡◌, ◌∙◌, sym, subst, ℕ, pos, Bool, [], map, refl, ap}
use Rattle.std.specs.Prelude.{FitsSigned}
use Rattle.std.specs.Int.{w64}
use Rattle.std.proofs.lemmas.List.{append-nil, map-append}
use Rattle.kr_calls.specs.declared.events.Event.{Event}
use Rattle.kr_defs.specs.declared.options.Options.{Options}
use Rattle.kr_model.specs.Events.{at_time_of, outcome, time_after}
use Rattle.law_nodes.specs.Moves.{with_event}
use Rattle.law_nodes.specs.Nodes.{Run, RunNode, after_event, told_of}
use Rattle.law_nodes.proofs.Steady.{LeavesEnd, node_end, node_settled}
use Rattle.kr_nodes.specs.declared.node.Node.{Node}
use Rattle.kr_nodes.specs.declared.shared.Shared.{Shared}
use Rattle.kr_nodes.specs.inner.Acting.{LeavesRun}
use Rattle.kr_nodes.specs.inner.Taking.{NodeTakes, if_write}
use Rattle.kr_nodes.specs.Standing.{AreBelow, StandsForNode, StandsForShared, told_as}
use Rattle.kr_nodes.proofs.Handings.{new_items}
use Rattle.kr_nodes.proofs.Takings.{ReadBy, TakenNode, taken, taken_of, told_so}

module _ (options : Options) (r : Run) (k : ℕ) (n : RunNode) (event : Event) (before after : Node) (is_write : Bool) (shared shared' : Shared)
    (t : NodeTakes k before after is_write shared.told.items shared'.told.items event) (s : StandsForNode options r.list n before) (g : StandsForShared r shared)
    (new : if_write is_write t.stepped.fresh ≡ new_items options k n event (outcome options (at_time_of n.state event) event)) (reads : ReadBy options n event (outcome options (at_time_of n.state event) event))
    (fits : FitsSigned w64 (time_after n.state.basis.time event)) where
  own : TakenNode options (after_event options n event) after
  own = taken options k n event before after is_write shared.told.items shared'.told.items t (taken_of options r.list n before s) new reads fits

  -- where it stands once its places are known
  pub node_stands : AreBelow r.list (after_event options n event).state.world.committed after.fed → StandsForNode options r.list (after_event options n event) after
  node_stands fed = record {
    options_are = own.options_are;
    engine = own.engine;
    drained = own.drained;
    settled = t.places.settled ∙ (s.settled ∙ ap (λ m. pos m) (sym (node_settled options n event)));
    unsettled = own.unsettled;
    waiting = own.waiting;
    fed = fed;
    sent = subst (λ m. AreBelow r.list m after.sent) (sym (node_settled options n event)) (subst (AreBelow r.list n.settled) (sym t.places.sent) s.sent);
    reads = own.reads;
    time = own.time;
  }

  pub shares : shared' ≡ record shared { told = shared'.told } → StandsForShared (with_event options r k n event) shared'
  shares same = record {
    list = ap (λ (x : Shared). x.list.items) same ∙ g.list;
    reads = g.reads;
    length_is = ap (λ (x : Shared). x.length) same ∙ g.length_is;
    elected = ap (λ (x : Shared). x.elected) same ∙ g.elected;
    told =
        told_so options k n event before after is_write shared.told.items shared'.told.items t (taken_of options r.list n before s) new reads (map told_as r.told) g.told
        ∙ sym (map-append told_as r.told (told_of options k n event));
  }

  pub event_leaves : LeavesEnd event → shared' ≡ record shared { told = shared'.told } → LeavesRun options r (with_event options r k n event) k after shared'
  event_leaves kind same = record {
    node = after_event options n event;
    nodes_are = refl;
    more = [];
    grows = sym (append-nil r.list);
    stands = node_stands (subst (λ m. AreBelow r.list m after.fed) (sym (node_end options n event kind)) (subst (AreBelow r.list n.state.world.committed) (sym t.places.fed) s.fed));
    shares = shares same;
  }
