use Rattle.std.proofs.Common.{◌∙◌}
use Rattle.kr_layout.proofs.Chains.{on_err, begins_two}
use Rattle.kr_layout.proofs.put.RowsPut.put_parts.Goals as goal

pub returns-in_err-put-clause-err : goal.returns-in_err-put-clause-err
returns-in_err-put-clause-err g c = on_err _ (begins_two _ _ _ _ (c.in_err-put.ensures.err ∙ c.loop-value.invariant.bytes))
