use Rattle.std.proofs.Common.{drop, []}
use Rattle.kr_calls.specs.Metadata.{topics_named}
use Rattle.kr_topics.proofs.MetadataRows.{Shows}
use Rattle.kr_topics.proofs.named_topics.named_topic_rows.Given as goal

abbrev pub invariant-loop-entry : goal.invariant-loop-entry
invariant-loop-entry g l =
    let image = l.seen in
    Shows image l.named l.rows (drop l.entry-index l.asked) (topics_named image [] l.asked)
