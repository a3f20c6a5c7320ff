use Rattle.kr_topics.proofs.MetadataRows.{shown_at}
use Rattle.kr_topics.proofs.named_topics.named_topic_rows.Goals as goal

pub loop-entry-preserved : goal.loop-entry-preserved
loop-entry-preserved g c =
    let image = c.args.seen.now in
    shown_at image c.loop-entry.named _ c.loop-entry.rows _ c.args.asked.now c.loop-entry.entry-index c.entry-item.result _ _ c.loop-entry-test.true c.entry-item.is c.in_ok-push.ensures.ok c.in_ok-entry_row.ensures.row c.in_ok-entry_row.ensures.named c.loop-entry.invariant
