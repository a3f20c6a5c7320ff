use Rattle.std.proofs.Common.{sym, subst}
use Rattle.std.specs.Prelude.{IfOk}
use Rattle.kr_fold.specs.inner.NextBatches.{IsBatchOrNone}
use Rattle.kr_fold.proofs.Batches.{none_read}
use Rattle.kr_fold.proofs.log.batch_of.Goals as goal

pub returns-in-Err : goal.returns-in-Err
returns-in-Err c =
    subst (λ r. IfOk r (λ o. IsBatchOrNone c.args.bytes.now o)) (sym c.none_for.ensures) (none_read c.args.bytes.now c.in-Err.fault (λ batch is. c.in-Err.ensures.only batch is))
