use Rattle.std.proofs.Common.{arith}
use Rattle.kr_door_loop.proofs.Going.{ends_by, goes_on, no_usage, nothing_yet}
use Rattle.kr_door_loop.proofs.looping.answer_frames.Goals as goal

pub loop-next-init : goal.loop-next-init
loop-next-init g c = record {
  within = omega arith;
  so = nothing_yet _ _;
  input = omega arith;
  output = omega arith;
}

pub loop-next-preserved : goal.loop-next-preserved
loop-next-preserved g c = record {
  within = c.in-Ok.ensures.further.1;
  so = goes_on _ _ _ _ _ _ _ c.loop-next.invariant.so _ c.in-Ok.ensures.steps;
  input = omega (arith, c.loop-next.invariant.input, c.in-Ok.ensures.input_later);
  output = omega (arith, c.loop-next.invariant.output, c.in-Ok.ensures.output_later);
}

pub returns-in-Err-clause-ends : goal.returns-in-Err-clause-ends
returns-in-Err-clause-ends g c = ends_by _ _ _ _ _ _ _ c.loop-next.invariant.so _ c.in-Err.ensures.steps

pub returns-in-Err-clause-usage : goal.returns-in-Err-clause-usage
returns-in-Err-clause-usage g c = no_usage _ _ _ _ _ _ c.in-Err.ensures.steps
