use Rattle.std.proofs.Common.{◌≡◌, ℕ, ◌≤◌, ◌-◌, List, [], Option}
use Rattle.kr_defs.specs.declared.limits.TheConstants.{MOST_SESSION_BYTES}
use Rattle.kr_model.specs.Engine as engines
use Rattle.kr_model.specs.Engine.{IsSound}
use Rattle.kr_stream.specs.declared.stage.Stage.TheVariants as stages
use Rattle.kr_session_loop.specs.inner.Serving.{Going}
use Rattle.kr_session_loop.proofs.sessions.serve_frames.Given as goal

abbrev pub invariant-loop-status : goal.invariant-loop-status
invariant-loop-status g l = record {
  place : l.reader.at ≤ MOST_SESSION_BYTES;
  stage : l.reader.stage ≡ stages.Opened;
  sound : IsSound l.engine;
  drained : engines.outputs_left l.engine ≡ [];
  going : (left written : Option (List ℕ)) → Going left (g.S.Source.left l.initial.input) written (g.K.Sink.written l.initial.output) l.initial.engine l.initial.reader.at
      → Going left (g.S.Source.left l.input) written (g.K.Sink.written l.output) l.engine l.reader.at;
  input : g.S.Source.faults l.initial.input ≤ g.S.Source.faults l.input;
  output : g.K.Sink.faults l.initial.output ≤ g.K.Sink.faults l.output;
}

abbrev pub decreases-loop-status : goal.decreases-loop-status
decreases-loop-status g l = MOST_SESSION_BYTES - l.reader.at
