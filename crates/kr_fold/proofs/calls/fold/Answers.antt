use Rattle.kr_fold.proofs.Completeness.{folds_whole, folds_no_more}
use Rattle.kr_fold.proofs.calls.fold.Goals as goal

pub returns-clause-complete : goal.returns-clause-complete
returns-clause-complete g c = λ read write.
    folds_whole _ _ _ c.fold_log.result _ c.fold_log.ensures.ends (λ is. read (c.fold_log.ensures.read is)) (λ is. write (c.fold_log.ensures.write is))

pub returns-clause-broken : goal.returns-clause-broken
returns-clause-broken g c = λ read write.
    folds_no_more _ _ _ c.fold_log.result _ c.fold_log.ensures.ends (λ is. read (c.fold_log.ensures.read is)) (λ is. write (c.fold_log.ensures.write is))
