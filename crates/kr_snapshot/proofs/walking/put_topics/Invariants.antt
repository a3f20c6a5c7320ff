use Rattle.std.proofs.Common.{length}
use Rattle.std.specs.Prelude.{flat_map}
use Rattle.std.specs.Option.{option_copied}
use Rattle.kr_defs.specs.Map.{above, text_order}
use Rattle.kr_defs.specs.Records.{topic_records}
use Rattle.kr_snapshot.specs.inner.Writer.{IsAmid}
use Rattle.kr_snapshot.proofs.walking.put_topics.Given as goal

abbrev pub invariant-loop-name : goal.invariant-loop-name
invariant-loop-name g l =
    let image = l.seen in
    IsAmid l.fn.writer l.writer (flat_map (topic_records image.partitions) image.topics) (flat_map (topic_records image.partitions) (above text_order image.topics (option_copied l.after)))

abbrev pub decreases-loop-name : goal.decreases-loop-name
decreases-loop-name g l = length (above text_order l.seen.topics (option_copied l.after))
