use Rattle.std.proofs.Common.{◌≡◌, List, length}
use Rattle.std.specs.Prelude.{IsTrue}
use Rattle.kr_model.specs.declared.writes.Write.{Write}
use Rattle.kr_model.specs.Engine.{IsEngine, IsSound, outputs_left, writes_in_order}
use Rattle.kr_model.specs.World.{State}
use Rattle.kr_leaders.proofs.controller.drop_outputs.Given as goal

abbrev pub invariant-loop-output : goal.invariant-loop-output
invariant-loop-output l = record {
  sound : IsSound l.engine;
  ordered : IsTrue (writes_in_order l.engine.held);
  options : l.engine.options ≡ l.initial.engine.options;
  stands : (s : State) (writes : List Write) → IsEngine l.initial.engine s writes → IsEngine l.engine s writes;
}

abbrev pub decreases-loop-output : goal.decreases-loop-output
decreases-loop-output l = length (outputs_left l.engine)
