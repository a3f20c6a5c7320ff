use Rattle.std.proofs.lemmas.Result.{err_from_is_err_and}
use Rattle.kr_wire.proofs.SkippedFields.{skips_one, skips_fault, skips_none}
use Rattle.kr_wire.proofs.reading.skip_fields.Goals as goal

pub loop-preserved : goal.loop-preserved
loop-preserved c = record {
  within = c.in_ok-tag.ensures.within.1;
  so_far = skips_one _ _ c.loop.last _ _ _ _ _ _ c.loop-test.true c.in_ok-tag.ensures.within.0 c.in_ok-tag.ensures.read c.loop.invariant.so_far;
}

pub returns-in_err-tag-clause-read : goal.returns-in_err-tag-clause-read
returns-in_err-tag-clause-read c =
    let p = err_from_is_err_and c.from_residual.result c.from_residual.ensures.1 in
    rw (p.1, p.2) (skips_fault _ _ c.loop.last _ _ _ c.loop-test.true c.in_err-tag.ensures.read c.loop.invariant.so_far)

pub returns-clause-read : goal.returns-clause-read
returns-clause-read c = skips_none _ _ c.loop.last _ _ c.loop-test.false c.loop.invariant.so_far
