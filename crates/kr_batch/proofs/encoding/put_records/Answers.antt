use Rattle.kr_batch.proofs.Records.{goes_on, ends}
use Rattle.kr_batch.proofs.encoding.put_records.Goals as goal

pub loop-number-preserved : goal.loop-number-preserved
loop-number-preserved c =
    goes_on c.loop-number.out.items _ _ c.args.items.now c.loop-number.number c.index-items-number.result c.loop-number-test.true c.index-items-number.is
    c.in_ok-put_item.ensures c.loop-number.invariant

pub returns : goal.returns
returns c = ends c.loop-number.out.items _ c.args.items.now c.loop-number.number c.loop-number-test.false c.loop-number.invariant
