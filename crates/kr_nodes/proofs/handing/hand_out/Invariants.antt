use Rattle.std.proofs.Common.{length}
use Rattle.std.specs.Prelude.{IsTrue}
use Rattle.kr_model.specs.Engine.{outputs_left, writes_in_order}
use Rattle.kr_nodes.specs.inner.Handing.{HandsPart, handed_over}
use Rattle.kr_nodes.proofs.handing.hand_out.Given as goal

abbrev pub invariant-loop-output : goal.invariant-loop-output
invariant-loop-output l = record {
  ordered : IsTrue (writes_in_order l.engine.held);
  some : HandsPart l.node l.initial.engine l.engine (handed_over l.initial.pending l.initial.told.items) (handed_over l.pending l.told.items);
}

abbrev pub decreases-loop-output : goal.decreases-loop-output
decreases-loop-output l = length (outputs_left l.engine)
