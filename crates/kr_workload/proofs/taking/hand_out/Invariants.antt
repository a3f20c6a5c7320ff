use Rattle.std.proofs.Common.{◌≡◌, List, length}
use Rattle.std.specs.Prelude.{IsTrue}
use Rattle.kr_calls.specs.declared.events.Output.{Output}
use Rattle.kr_session_loop.specs.inner.Serving.{HandsSome}
use Rattle.kr_model.specs.Engine.{outputs_left, writes_in_order}
use Rattle.kr_workload.specs.inner.Counting.{with_outputs}
use Rattle.kr_workload.proofs.taking.hand_out.Given as goal

abbrev pub invariant-loop-output : goal.invariant-loop-output
invariant-loop-output l = record {
  ordered : IsTrue (writes_in_order l.engine.held);
  gone : (given : List Output) × HandsSome l.initial.engine given l.engine × (l.tally ≡ with_outputs l.initial.tally given);
}

abbrev pub decreases-loop-output : goal.decreases-loop-output
decreases-loop-output l = length (outputs_left l.engine)
