-- A node that has all of the list below its committed end, and nothing else.
use Rattle.std.proofs.Common.{◌∙◌, sym, subst, ℕ, List, ◌++◌, ap}
use Rattle.std.proofs.lemmas.List.{append_assoc}
use Rattle.kr_batch.specs.declared.Batch.{Batch}
use Rattle.kr_defs.specs.declared.options.Options.{Options}
use Rattle.kr_model.specs.Engine.{Core, IsEngine, outputs_left}
use Rattle.law_nodes.specs.NodeEvents.{writes_in}
use Rattle.law_nodes.specs.Nodes.{RunNode, at_own_end}
use Rattle.kr_nodes.specs.declared.node.Node.{Node}
use Rattle.kr_nodes.specs.inner.Taking.{ReturnsToEnd}
use Rattle.kr_nodes.specs.Standing.{AreBelow, StandsForNode}
use Rattle.kr_nodes.proofs.Takings.{TakenNode}

pub own_end : (options : Options) (list : List Batch) (m : RunNode) (node after : Node) → TakenNode options m node → ReturnsToEnd node after → AreBelow list m.state.world.committed node.fed
    → StandsForNode options list (at_own_end m) after
own_end options list m node after t back fed = record {
  options_are = ap (λ (e : Core). e.options) back.engine ∙ t.options_are;
  engine = subst (λ (e : Core). IsEngine e m.state (writes_in m.waiting)) (sym back.engine) t.engine;
  drained = ap (λ (e : Core). outputs_left e) back.engine ∙ t.drained;
  settled = back.settled ∙ t.engine.committed;
  unsettled = back.unsettled;
  waiting = back.waiting ∙ t.waiting;
  fed = subst (AreBelow list m.state.world.committed) (sym back.fed) fed;
  sent = subst (AreBelow list m.state.world.committed) (sym back.sent) fed;
  reads = tt;
  time = t.time;
}

-- so many batches of the list are below, and are also of a longer one
pub below_more : (list more : List Batch) (place count : ℕ) → AreBelow list place count → AreBelow (list ++ more) place count
below_more list more place count a = record {
  done = a.done;
  ahead = a.ahead ++ more;
  is = ap (λ (l : List Batch). l ++ more) a.is ∙ append_assoc a.done a.ahead more;
  reaches = a.reaches;
  count_is = a.count_is;
}
