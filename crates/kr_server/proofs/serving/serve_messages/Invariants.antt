use Rattle.std.proofs.Common.{◌≤◌, ◌-◌}
use Rattle.kr_defs.specs.declared.limits.TheConstants.{MOST_SESSION_BYTES}
use Rattle.kr_server.specs.Served.{connection}
use Rattle.kr_server.specs.inner.Paging.{HasPlaceLeft, KeepsPlaces}
use Rattle.kr_server.specs.inner.Serving.{ServedSoFar}
use Rattle.kr_server.proofs.serving.serve_messages.Given as goal

abbrev pub invariant-loop-end : goal.invariant-loop-end
invariant-loop-end g l = record {
  place : l.at ≤ MOST_SESSION_BYTES;
  going : ServedSoFar (connection (g.S.Source.left l.initial.source) (g.K.Sink.written l.initial.sink) (g.T.Transcript.list l.initial.transcript) l.initial.seat)
      (connection (g.S.Source.left l.source) (g.K.Sink.written l.sink) (g.T.Transcript.list l.transcript) l.seat) l.paging.held l.at;
  room : HasPlaceLeft l.seat.held l.paging.held;
  places : KeepsPlaces l.initial.seat l.initial.paging.held l.seat l.paging.held;
  source : g.S.Source.faults l.initial.source ≤ g.S.Source.faults l.source;
  sink : g.K.Sink.faults l.initial.sink ≤ g.K.Sink.faults l.sink;
}

abbrev pub decreases-loop-end : goal.decreases-loop-end
decreases-loop-end g l = MOST_SESSION_BYTES - l.at
