use Rattle.std.proofs.lemmas.Result.{err_from_is_err_and}
use Rattle.kr_wire.specs.Schema.{value_at}
use Rattle.kr_wire.proofs.Elements.{goes_on, is_done}
use Rattle.kr_layout.proofs.Elements.{ends}
use Rattle.kr_layout.proofs.get.some_elements.Goals as goal

pub returns-in_err-get : goal.returns-in_err-get
returns-in_err-get g c =
    let p = err_from_is_err_and c.from_residual-in_err-get.result c.from_residual-in_err-get.ensures.1 in
    rw (p.1, p.2) (ends (value_at g.T.Get.schema) c.loop.list.items c.args.count c.loop.counter _ _ c.loop.invariant c.in_err-get.field-0.0 c.loop-test.true c.in_err-get.ensures)

pub loop-preserved : goal.loop-preserved
loop-preserved g c =
    rw c.in_ok-push.ensures.items (goes_on (value_at g.T.Get.schema) c.loop.list.items c.args.count c.loop.counter _ _ c.loop.invariant c.in_ok-get.field-0 _ c.loop-test.true c.in_ok-get.ensures)

pub returns : goal.returns
returns g c = is_done (value_at g.T.Get.schema) c.loop.list.items c.args.count c.loop.counter _ _ c.loop.invariant c.loop-test.false
