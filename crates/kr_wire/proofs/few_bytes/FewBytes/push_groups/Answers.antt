use Rattle.std.proofs.Common.{◌+◌, ◌%◌, ◌∷◌, [], arith, length-append}
use Rattle.kr_wire.proofs.GroupWriting.{pushes_one, smaller}
use Rattle.kr_wire.proofs.few_bytes.FewBytes.push_groups.Goals as goal

pub loop-left-preserved : goal.loop-left-preserved
loop-left-preserved c = rw c.push.ensures record {
  fits = smaller c.loop-left.left c.loop-left.rest c.loop-left-test.true c.loop-left.invariant.fits;
  space = omega (arith, length-append c.loop-left.self ((128 + c.loop-left.rest % 128) ∷ []), c.loop-left.invariant.space);
  so_far = pushes_one c.loop-left.self c.loop-left.left c.loop-left.rest _ c.loop-left-test.true c.if-rest-ge128.true c.loop-left.invariant.so_far;
}
