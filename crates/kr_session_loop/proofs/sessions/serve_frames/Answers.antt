use Rattle.std.proofs.Common.{arith}
use Rattle.kr_session_loop.proofs.sessions.serve_frames.Goals as goal

pub returns-in-Err-clause-ends : goal.returns-in-Err-clause-ends
returns-in-Err-clause-ends g c = λ left written going. c.in-Err.ensures.goes left written (c.loop-status.invariant.going left written going)

pub loop-status-preserved : goal.loop-status-preserved
loop-status-preserved g c = record {
  place = c.in-Ok.ensures.further.1;
  stage = c.in-Ok.ensures.stage;
  sound = c.in-Ok.ensures.ready.0;
  drained = c.in-Ok.ensures.ready.1;
  going = λ left written going. c.in-Ok.ensures.goes left written (c.loop-status.invariant.going left written going);
  input = omega (arith, c.loop-status.invariant.input, c.in-Ok.ensures.input_later);
  output = omega (arith, c.loop-status.invariant.output, c.in-Ok.ensures.output_later);
}
