use Rattle.std.proofs.Common.{◌≡◌, ◌+◌, drop}
use Rattle.kr_snapshot.specs.ReaderState.{HasRoom, progress_in}
use Rattle.kr_snapshot.specs.Reading.{items_read}
use Rattle.kr_snapshot.proofs.records.read_items.Given as goal

abbrev pub invariant-loop-item : goal.invariant-loop-item
invariant-loop-item g l = record {
  room : HasRoom l.tally;
  kept : l.store.kept ≡ l.fn.store.kept;
  begun : l.store.begun ≡ l.fn.store.begun;
  kept_begun : l.store.kept_begun ≡ l.fn.store.kept_begun;
  expected : l.tally.expected ≡ l.fn.tally.expected;
  count : l.tally.found ≡ l.fn.tally.found + l.item-index;
  read : items_read (progress_in l.tally l.store.tip) (drop l.item-index l.list) ≡ items_read (progress_in l.fn.tally l.fn.store.tip) l.list;
}
