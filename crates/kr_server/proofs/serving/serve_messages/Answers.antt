use Rattle.std.proofs.Common.{ℤ, Option, sym, subst, arith}
use Rattle.kr_server.specs.Served.{connection}
use Rattle.kr_server.specs.inner.Serving.{ServedSoFar}
use Rattle.kr_server.proofs.HeldPlaces.{keeps_nothing}
use Rattle.kr_server.proofs.Steps.{begins}
use Rattle.kr_server.proofs.serving.serve_messages.Goals as goal

pub loop-end-init : goal.loop-end-init
loop-end-init g c =
    let first = connection (g.S.Source.left c.args.source.now) (g.K.Sink.written c.args.sink.now) (g.T.Transcript.list c.args.transcript.now) c.args.seat.now in
    record {
      place = omega arith;
      going = subst (λ (h : Option ℤ). ServedSoFar first first h 0) (sym c.requires.none) (begins first);
      room = c.requires.room;
      places = keeps_nothing _ _;
      source = omega arith;
      sink = omega arith;
    }
