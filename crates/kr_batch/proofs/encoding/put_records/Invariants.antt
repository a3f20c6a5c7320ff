use Rattle.std.proofs.Common.{◌≡◌, ◌++◌, drop}
use Rattle.kr_batch.specs.BatchBytes.{records_bytes}
use Rattle.kr_batch.proofs.encoding.put_records.Given as goal

abbrev pub invariant-loop-number : goal.invariant-loop-number
invariant-loop-number l =
    l.out.items ++ records_bytes l.number (drop l.number l.items) ≡ l.initial.out.items ++ records_bytes 0 l.items
