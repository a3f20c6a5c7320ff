use Rattle.std.proofs.Common.{◌∙◌, List, ℕ, length, sym, ap, rules, w64}
use Rattle.std.specs.Prelude.{FitsSigned}
use Rattle.std.proofs.lemmas.Int.{to_z-of_z}
use Rattle.std.proofs.lemmas.Result.{err_from_is_err_and}
use Rattle.kr_fold.specs.inner.NextBatches.{log_at}
use Rattle.kr_fold.proofs.LogReading.{reads_forgotten, reads_none, reads_refused, reads_beyond, one_refused, within_beyond}
use Rattle.kr_fold.proofs.log.read_next.Goals as goal

pub returns-in-Err-clause-next : goal.returns-in-Err-clause-next
returns-in-Err-clause-next g c = λ left reads. reads_none left _ _ _ _ reads _ _ c.in-Err.fault c.in-Err.ensures.none

pub returns-in-None-clause-next : goal.returns-in-None-clause-next
returns-in-None-clause-next g c = λ left reads.
    let next = rw c.in-Ok-Some.field-0-is at c.in-Ok-Some.ensures.batch in
    let none = rw (c.as_slice.ensures.value, c.in-None.is) at c.in_ok-batch.ensures in
    reads_refused left _ _ _ _ reads c.in-Ok-Some.bytes.items next.took next.within next.sized (λ batch next is follows. none batch is)

pub returns-in-None-2-clause-next : goal.returns-in-None-2-clause-next
returns-in-None-2-clause-next g c = λ left reads.
    let next = rw c.in-Ok-Some.field-0-is at c.in-Ok-Some.ensures.batch in
    let read = rw (c.as_slice.ensures.value, c.in-Some.is) at c.in_ok-batch.ensures in
    let refused = rw c.in-None-2.is at c.in_ok-tip.ensures.next in
    reads_refused left _ _ (log_at c.args.place.now c.args.store.now) _ reads c.in-Ok-Some.bytes.items next.took next.within next.sized
    (one_refused (log_at c.args.place.now c.args.store.now) c.in-Some.batch c.in-Ok-Some.bytes.items read.0 refused)

pub returns-clause-next : goal.returns-clause-next
returns-clause-next g c = λ left reads.
    let next = rw c.in-Ok-Some.field-0-is at c.in-Ok-Some.ensures.batch in
    let read = rw (c.as_slice.ensures.value, c.in-Some.is) at c.in_ok-batch.ensures in
    let follows = rw c.in-Some-2.is at c.in_ok-tip.ensures.next in
    let whole = c.len.ensures ∙ (sym c.as_slice.ensures.len ∙ ap (λ (l : List ℕ). length l) c.as_slice.ensures.value) in
    let fits : FitsSigned w64 c.in-Some-2.tip = search rules in
    reads_beyond left _ _ c.args.place.now c.beyond.result c.args.store.now c.follow.new.store c.in-Ok-Some.bytes.items c.in-Some.batch c.in-Some-2.tip c.len.result
    reads next.took read.0 follows (c.beyond.ensures.tip ∙ to_z-of_z w64 c.in-Some-2.tip fits) c.beyond.ensures.at whole

pub returns-clause-within : goal.returns-clause-within
returns-clause-within g c =
    let next = rw c.in-Ok-Some.field-0-is at c.in-Ok-Some.ensures.batch in
    let read = rw (c.as_slice.ensures.value, c.in-Some.is) at c.in_ok-batch.ensures in
    let follows = rw c.in-Some-2.is at c.in_ok-tip.ensures.next in
    let whole = c.len.ensures ∙ (sym c.as_slice.ensures.len ∙ ap (λ (l : List ℕ). length l) c.as_slice.ensures.value) in
    let fits : FitsSigned w64 c.in-Some-2.tip = search rules in
    within_beyond c.args.place.now c.beyond.result c.in-Ok-Some.bytes.items (length c.in-Some.batch.items) c.in-Some-2.tip c.len.result
    c.requires.within follows.1 read.2 next.sized next.within (c.beyond.ensures.tip ∙ to_z-of_z w64 c.in-Some-2.tip fits) c.beyond.ensures.at whole

pub returns-in_err-tip-clause-next : goal.returns-in_err-tip-clause-next
returns-in_err-tip-clause-next g c = λ left reads.
    let next = rw c.in-Ok-Some.field-0-is at c.in-Ok-Some.ensures.batch in
    let p = err_from_is_err_and c.from_residual-in_err-tip.result c.from_residual-in_err-tip.ensures.1 in
    rw (p.1, p.2) (reads_forgotten left _ _ _ _ reads c.in-Ok-Some.bytes.items next.took next.within next.sized)
