use Rattle.std.proofs.Common.{◌≡◌, ◌∙◌, length, ap, arith}
use Rattle.std.proofs.lemmas.Result.{err_from_is_err_and}
use Rattle.kr_snapshot.specs.ReaderState.{progress_in}
use Rattle.kr_snapshot.specs.Reading.{items_read}
use Rattle.kr_snapshot.proofs.RecordsRead.{items_fault, items_next}
use Rattle.kr_snapshot.proofs.records.read_items.Goals as goal

pub loop-item-preserved : goal.loop-item-preserved
loop-item-preserved g c =
    let same : c.as_slice-list.result.now ≡ c.args.items.now = c.as_slice-list.ensures in
    let long = ap length same in
    record {
      room = record {
        within = omega (arith, c.in_ok-read_item.ensures.count, c.in_ok-read_item.ensures.expected, c.loop-item.invariant.count, c.loop-item.invariant.expected, c.requires.within, c.loop-item-test.true, long);
        fits = omega (arith, c.in_ok-read_item.ensures.expected, c.loop-item.invariant.room.fits);
      };
      kept = c.in_ok-read_item.ensures.kept ∙ c.loop-item.invariant.kept;
      begun = c.in_ok-read_item.ensures.begun ∙ c.loop-item.invariant.begun;
      kept_begun = c.in_ok-read_item.ensures.kept_begun ∙ c.loop-item.invariant.kept_begun;
      expected = c.in_ok-read_item.ensures.expected ∙ c.loop-item.invariant.expected;
      count = omega (arith, c.in_ok-read_item.ensures.count, c.loop-item.invariant.count);
      read = items_next _ _ c.as_slice-list.result.now c.loop-item.item-index c.item-item.result c.loop-item-test.true c.item-item.is c.in_ok-read_item.ensures.read ∙ c.loop-item.invariant.read;
    }

pub returns-in_err-read_item-clause-read : goal.returns-in_err-read_item-clause-read
returns-in_err-read_item-clause-read g c =
    let p = err_from_is_err_and c.from_residual.result c.from_residual.ensures.1 in
    let same : c.as_slice-list.result.now ≡ c.args.items.now = c.as_slice-list.ensures in
    let so_far = c.loop-item.invariant.read ∙ ap (items_read (progress_in c.args.tally.now c.args.store.now.tip)) same in
    rw (p.1, p.2) (items_fault _ c.as_slice-list.result.now c.loop-item.item-index c.item-item.result c.loop-item-test.true c.item-item.is _ _ so_far c.in_err-read_item.ensures.read)
