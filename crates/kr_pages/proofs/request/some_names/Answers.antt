use Rattle.std.proofs.lemmas.Result.{err_from_is_err_and}
use Rattle.kr_wire.specs.Schema.{value_at}
use Rattle.kr_wire.proofs.Elements.{goes_on, is_done}
use Rattle.kr_layout.proofs.Elements.{ends}
use Rattle.kr_pages.specs.Messages.{topic_request}
use Rattle.kr_pages.proofs.request.some_names.Goals as goal

pub returns-in_err-read_name : goal.returns-in_err-read_name
returns-in_err-read_name c =
    let p = err_from_is_err_and c.from_residual.result c.from_residual.ensures.1 in
    rw (p.1, p.2) (ends (value_at topic_request) c.loop.list.items c.args.count c.loop.counter _ _ c.loop.invariant c.in_err-read_name.field-0.0 c.loop-test.true c.in_err-read_name.ensures)

pub loop-preserved : goal.loop-preserved
loop-preserved c =
    rw c.in_ok-push.ensures.items (goes_on (value_at topic_request) c.loop.list.items c.args.count c.loop.counter _ _ c.loop.invariant c.in_ok-read_name.field-0 _ c.loop-test.true c.in_ok-read_name.ensures)

pub returns : goal.returns
returns c = is_done (value_at topic_request) c.loop.list.items c.args.count c.loop.counter _ _ c.loop.invariant c.loop-test.false
