use Rattle.std.proofs.Common.{◌∙◌}
use Rattle.kr_layout.proofs.Chains.{begins_two, on_err}
use Rattle.kr_record.proofs.pieces.put_directories.Goals as goal

pub returns-in_err-put_id-clause-err : goal.returns-in_err-put_id-clause-err
returns-in_err-put_id-clause-err c =
    on_err c.from_residual-in_err-put_id.result (begins_two _ _ _ _ (c.in_err-put_id.ensures.err ∙ c.loop-replica.invariant))
