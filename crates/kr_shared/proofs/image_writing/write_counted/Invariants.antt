use Rattle.std.proofs.Common.{◌≤◌, ◌-◌}
use Rattle.kr_shared.proofs.ImageWritten.{HasWritten}
use Rattle.kr_shared.proofs.image_writing.write_counted.Given as goal

abbrev pub invariant-loop-done : goal.invariant-loop-done
invariant-loop-done g l = record {
  so_far : HasWritten l.fn.walk l.fn.seat l.count l.seat l.walk l.done l.writer (g.K.Sink.written l.fn.sink) (g.K.Sink.written l.sink);
  faults : g.K.Sink.faults l.fn.sink ≤ g.K.Sink.faults l.sink;
}

abbrev pub decreases-loop-done : goal.decreases-loop-done
decreases-loop-done g l = l.count - l.done
