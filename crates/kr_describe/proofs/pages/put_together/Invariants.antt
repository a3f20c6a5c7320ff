use Rattle.std.proofs.Common.{◌≡◌, [], fold, length}
use Rattle.std.specs.Vec.Iter.{into_iter_items, into_iter_len}
use Rattle.kr_describe.specs.inner.ShownLines.{with_line_entry}
use Rattle.kr_describe.proofs.pages.put_together.Given as goal

abbrev pub invariant-loop-entry : goal.invariant-loop-entry
invariant-loop-entry l =
    let left = into_iter_items l.entry-iterator in record {
      made : fold with_line_entry l.topics.items left ≡ fold with_line_entry [] (into_iter_items l.initial.entry-iterator);
      count : into_iter_len l.entry-iterator ≡ length left;
    }
