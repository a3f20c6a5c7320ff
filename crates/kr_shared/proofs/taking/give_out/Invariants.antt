use Rattle.std.proofs.Common.{length}
use Rattle.std.specs.Prelude.{IsTrue}
use Rattle.kr_model.specs.Engine.{outputs_left, writes_in_order}
use Rattle.kr_shared.specs.Lines.{HasLineRoom}
use Rattle.kr_shared.proofs.Giving.{SoFar}
use Rattle.kr_shared.proofs.taking.give_out.Given as goal

abbrev pub invariant-loop-told : goal.invariant-loop-told
invariant-loop-told g l = record {
  ordered : IsTrue (writes_in_order l.engine.held);
  room : HasLineRoom l.line;
  so_far : SoFar l.fn.engine l.engine (g.Q.Quorum.pieces l.fn.quorum) (g.Q.Quorum.pieces l.quorum) (g.Q.Quorum.faults l.fn.quorum) (g.Q.Quorum.faults l.quorum) l.fn.line l.line l.given;
}

abbrev pub decreases-loop-told : goal.decreases-loop-told
decreases-loop-told g l = length (outputs_left l.engine)
