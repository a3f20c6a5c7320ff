use Rattle.std.proofs.lemmas.Result.{err_from_is_err_and}
use Rattle.kr_batch.proofs.Entries.{goes_on, ends, is_done}
use Rattle.kr_batch.proofs.decoding.read_entries.Goals as goal

pub returns-in_err-record : goal.returns-in_err-record
returns-in_err-record c =
    let p = err_from_is_err_and c.from_residual-in_err-record.result c.from_residual-in_err-record.ensures.1 in
    rw (p.1, p.2) (ends c.loop-number.list.items c.args.count c.loop-number.number _ _ c.in_err-record.field-0.0 c.loop-number-test.true c.in_err-record.ensures c.loop-number.invariant.so_far)

pub loop-number-preserved : goal.loop-number-preserved
loop-number-preserved c = record {
  within = c.in_ok-record.ensures.1;
  so_far = rw c.in_ok-push.ensures.items (goes_on c.loop-number.list.items c.args.count c.loop-number.number _ c.in_ok-record.record _ _ c.loop-number-test.true c.in_ok-record.ensures.0 c.loop-number.invariant.so_far);
}

pub returns : goal.returns
returns c = rw c.from_vec.ensures (is_done c.loop-number.list.items c.args.count c.loop-number.number _ _ c.loop-number-test.false c.loop-number.invariant.so_far)
