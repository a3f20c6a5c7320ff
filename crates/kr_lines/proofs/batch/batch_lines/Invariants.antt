use Rattle.std.proofs.Common.{◌≡◌, ◌≤◌, ◌++◌, length, drop}
use Rattle.kr_lines.specs.BatchLines.{item_lines}
use Rattle.kr_lines.proofs.batch.batch_lines.Given as goal

abbrev pub invariant-loop-item : goal.invariant-loop-item
invariant-loop-item l =
    let items = l.batch.items in
    record {
      all : l.text.items ++ item_lines l.batch l.number (drop l.item-index items) (drop l.at l.bytes) ≡ item_lines l.batch 0 items (drop 61 l.bytes);
      at : l.at ≤ length l.bytes;
      number : l.number ≡ l.item-index;
    }
