use Rattle.std.proofs.Common.{◌≡◌, ◌++◌, length}
use Rattle.std.specs.Prelude.{◌+ℤ◌, pos}
use Rattle.std.specs.Vec.Iter.{into_iter_items, into_iter_len}
use Rattle.kr_model.specs.Entries.{item_entries}
use Rattle.kr_engine.proofs.entries.place_items.Given as goal

abbrev pub invariant-loop-item : goal.invariant-loop-item
invariant-loop-item l =
    let all = into_iter_items l.initial.item-iterator in
    let left = into_iter_items l.item-iterator in record {
      out : l.out.items ++ item_entries l.next.place left ≡ l.fn.out.items ++ item_entries l.place all;
      at : l.next.place +ℤ pos (length left) ≡ l.place +ℤ pos (length all);
      count : into_iter_len l.item-iterator ≡ length left;
    }
