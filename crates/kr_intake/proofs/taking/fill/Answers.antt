use Rattle.std.proofs.Common.{arith}
use Rattle.kr_intake.proofs.Parts.{read_more}
use Rattle.kr_intake.proofs.taking.fill.Goals as goal

pub loop-at-preserved : goal.loop-at-preserved
loop-at-preserved g c = record {
  within = c.in_ok-count.ensures.bound;
  faults = omega (arith, c.loop-at.invariant.faults, c.read_behind.ensures.cause.later);
  took = read_more _ _ _ c.loop-at.at c.in_ok-count.count c.loop-at.into c.read_behind.new.into c.read_behind.ensures.before c.loop-at.invariant.took c.in_ok-count.ensures.bytes;
}
