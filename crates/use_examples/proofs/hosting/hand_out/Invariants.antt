use Rattle.std.proofs.Common.{length}
use Rattle.kr_model.specs.Engine.{IsSound, outputs_left}
use Rattle.use_examples.proofs.hosting.hand_out.Given as goal

abbrev pub invariant-loop-output : goal.invariant-loop-output
invariant-loop-output g l = IsSound l.engine

abbrev pub decreases-loop-output : goal.decreases-loop-output
decreases-loop-output g l = length (outputs_left l.engine)
