use Rattle.std.proofs.Common.{length, Some}
use Rattle.std.specs.Prelude.{map}
use Rattle.kr_defs.specs.Map.{above, partition_order}
use Rattle.kr_defs.specs.Walk.{of_topic}
use Rattle.kr_snapshot.specs.inner.EntryRecords.{partition_record}
use Rattle.kr_snapshot.specs.inner.Writer.{IsAmid}
use Rattle.kr_snapshot.proofs.walking.put_above.Given as goal

abbrev pub invariant-loop-key : goal.invariant-loop-key
invariant-loop-key g l =
    let all = l.seen.partitions in
    IsAmid l.fn.writer l.writer (map partition_record (of_topic l.fn.first.0 (above partition_order all (Some l.fn.first)))) (map partition_record (of_topic l.after.0 (above partition_order all (Some l.after))))

abbrev pub decreases-loop-key : goal.decreases-loop-key
decreases-loop-key g l = length (of_topic l.after.0 (above partition_order l.seen.partitions (Some l.after)))
