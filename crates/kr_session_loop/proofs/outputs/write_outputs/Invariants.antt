use Rattle.std.proofs.Common.{◌≤◌, List, length}
use Rattle.std.specs.Prelude.{IsTrue}
use Rattle.kr_calls.specs.declared.events.Output.{Output}
use Rattle.kr_model.specs.Engine.{writes_in_order, outputs_left}
use Rattle.kr_session_loop.specs.Endings.{WroteAll}
use Rattle.kr_session_loop.specs.inner.Serving.{HandsSome}
use Rattle.kr_session_loop.proofs.outputs.write_outputs.Given as goal

abbrev pub invariant-loop-output : goal.invariant-loop-output
invariant-loop-output g l = record {
  ordered : IsTrue (writes_in_order l.engine.held);
  later : g.K.Sink.faults l.initial.sink ≤ g.K.Sink.faults l.sink;
  gone : (given : List Output) × HandsSome l.initial.engine given l.engine × WroteAll (g.K.Sink.written l.initial.sink) (g.K.Sink.written l.sink) given;
}

abbrev pub decreases-loop-output : goal.decreases-loop-output
decreases-loop-output g l = length (outputs_left l.engine)
