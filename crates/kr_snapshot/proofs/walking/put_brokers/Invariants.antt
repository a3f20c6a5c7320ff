use Rattle.std.proofs.Common.{length}
use Rattle.std.specs.Prelude.{map}
use Rattle.std.specs.Option.{option_copied}
use Rattle.std.specs.Ordering.{int_cmp}
use Rattle.kr_defs.specs.Map.{above}
use Rattle.kr_snapshot.specs.inner.EntryRecords.{broker_record}
use Rattle.kr_snapshot.specs.inner.Writer.{IsAmid}
use Rattle.kr_snapshot.proofs.walking.put_brokers.Given as goal

abbrev pub invariant-loop-id : goal.invariant-loop-id
invariant-loop-id g l =
    let all = l.seen.brokers in
    IsAmid l.fn.writer l.writer (map broker_record all) (map broker_record (above int_cmp all (option_copied l.after)))

abbrev pub decreases-loop-id : goal.decreases-loop-id
decreases-loop-id g l = length (above int_cmp l.seen.brokers (option_copied l.after))
