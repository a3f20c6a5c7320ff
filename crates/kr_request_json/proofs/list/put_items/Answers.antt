use Rattle.std.proofs.lemmas.Result.{err_from_is_err_and}
use Rattle.kr_request_json.proofs.Lists.{all_put, begun, one_more, one_refused}
use Rattle.kr_request_json.proofs.list.put_items.Goals as goal

pub loop-item-init : goal.loop-item-init
loop-item-init g c = begun _ _ _

pub loop-item-preserved : goal.loop-item-preserved
loop-item-preserved g c = one_more _ _ _ _ _ c.loop-item.invariant c.item-item.result _ c.loop-item-test.true c.item-item.is c.in_ok-put.ensures

pub returns : goal.returns
returns g c = all_put _ _ _ _ _ c.loop-item.invariant c.loop-item-test.false

pub returns-in_err-put : goal.returns-in_err-put
returns-in_err-put g c =
    let p = err_from_is_err_and c.from_residual.result c.from_residual.ensures.1 in
    rw (p.1, p.2) (one_refused _ _ _ _ _ c.loop-item.invariant c.item-item.result c.in_err-put.field-0.0 c.loop-item-test.true c.item-item.is c.in_err-put.ensures)
