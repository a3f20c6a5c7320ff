use Rattle.std.proofs.Common.{◌≤◌, ◌-◌}
use Rattle.kr_defs.specs.declared.limits.TheConstants.{MOST_SESSION_BYTES}
use Rattle.kr_door_loop.specs.inner.Steps.{UpTo}
use Rattle.kr_door_loop.proofs.looping.answer_frames.Given as goal

abbrev pub invariant-loop-next : goal.invariant-loop-next
invariant-loop-next g l = record {
  within : l.at ≤ MOST_SESSION_BYTES;
  so : UpTo (g.S.Source.left l.initial.input) (g.S.Source.left l.input) (g.K.Sink.written l.initial.output) (g.K.Sink.written l.output) l.at;
  input : g.S.Source.faults l.initial.input ≤ g.S.Source.faults l.input;
  output : g.K.Sink.faults l.initial.output ≤ g.K.Sink.faults l.output;
}

abbrev pub decreases-loop-next : goal.decreases-loop-next
decreases-loop-next g l = MOST_SESSION_BYTES - l.at
