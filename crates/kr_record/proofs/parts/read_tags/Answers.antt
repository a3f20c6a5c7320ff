use Rattle.kr_wire.specs.Tables.{known}
use Rattle.std.proofs.lemmas.Result.{err_from_is_err_and}
use Rattle.kr_record.proofs.FieldLoop.{takes, ends_in_field}
use Rattle.kr_record.proofs.parts.read_tags.Goals as goal

pub returns-in_err-set : goal.returns-in_err-set
returns-in_err-set g c =
    let p = err_from_is_err_and c.from_residual-in_err-set.result c.from_residual-in_err-set.ensures.1 in
    rw (p.1, p.2) (ends_in_field (known g.F.Fields.table c.args.version) c.in_ok-count.count c.loop.counter c.loop.last c.loop.from c.loop.value _ c.in_ok-tag.tag c.in_ok-tag.data.now c.field.new.self c.in_err-set.field-0.0 c.loop-test.true c.in_ok-tag.ensures c.in_err-set.ensures c.loop.invariant)

pub loop-preserved : goal.loop-preserved
loop-preserved g c =
    takes (known g.F.Fields.table c.args.version) c.in_ok-count.count c.loop.counter c.loop.last c.loop.from c.loop.value _ c.in_ok-tag.tag c.in_ok-tag.data.now c.field.new.self c.set.new.self c.loop-test.true c.in_ok-tag.ensures c.in_ok-set.ensures c.loop.invariant
