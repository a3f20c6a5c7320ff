use Rattle.std.proofs.lemmas.Result.{err_from_is_err_and}
use Rattle.kr_messages.proofs.Loops.{all_shown, begun, one_more, one_refused}
use Rattle.kr_messages.proofs.list.show_elements.Goals as goal

pub loop-init : goal.loop-init
loop-init g c = begun _ _ _ _ _

pub loop-preserved : goal.loop-preserved
loop-preserved g c = one_more _ _ _ _ _ _ _ _ _ c.loop.invariant _ _ _ c.loop-test.true c.in_ok-put_comma.ensures c.in_ok-show.ensures

pub returns : goal.returns
returns g c = all_shown _ _ _ _ _ _ _ _ _ c.loop.invariant c.loop-test.false

pub returns-in_err-show : goal.returns-in_err-show
returns-in_err-show g c =
    let p = err_from_is_err_and c.from_residual-in_err-show.result c.from_residual-in_err-show.ensures.1 in
    rw (p.1, p.2) (one_refused _ _ _ _ _ _ _ _ _ c.loop.invariant c.in_err-show.field-0.0 c.loop-test.true c.in_err-show.ensures)
