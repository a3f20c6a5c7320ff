use Rattle.std.proofs.lemmas.Result.{err_from_is_err_and}
use Rattle.kr_fold.specs.inner.NextBatches.{log_at}
use Rattle.kr_fold.proofs.LogReading.{read_forgotten}
use Rattle.kr_fold.proofs.log.read_on.Goals as goal

pub returns-clause-next : goal.returns-clause-next
returns-clause-next g c = λ left reads.
    let next = rw c.in-Ok-Some.field-0-is at c.in-Ok-Some.ensures.next in
    rw c.in_ok-keep_end.ensures.state (next left reads)

pub returns-in-Ok-None-clause-next : goal.returns-in-Ok-None-clause-next
returns-in-Ok-None-clause-next g c = rw c.in-Ok-None.field-0-is at c.in-Ok-None.ensures.next

pub returns-in_err-keep_end-clause-next : goal.returns-in_err-keep_end-clause-next
returns-in_err-keep_end-clause-next g c = λ left reads.
    let next = rw c.in-Ok-Some.field-0-is at c.in-Ok-Some.ensures.next in
    let within = (rw c.in-Ok-Some.field-0-is at c.in-Ok-Some.ensures.within).0 in
    let p = err_from_is_err_and c.from_residual.result c.from_residual.ensures.1 in
    rw (p.1, p.2) (read_forgotten left _ (log_at c.in-Ok-Some.next c.read_next.new.store) c.in-Ok-Some.next.at (next left reads) within.bytes)
