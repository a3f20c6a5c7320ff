use Rattle.std.specs.Option.{option_copied}
use Rattle.kr_defs.proofs.ImageParts.{text_total}
use Rattle.kr_listing.proofs.WalkGathering.{entry_more, entry_over, entry_less}
use Rattle.kr_listing.proofs.gathering.add_topics.Goals as goal

pub loop-name-preserved : goal.loop-name-preserved
loop-name-preserved g c =
    let image = c.args.seen.now in
    entry_more text_total (g.P.TopicPart.part c.args.part.now image) image.topics (option_copied c.loop-name.after) (c.in-Some.name.now, c.in-Some.id.now) c.is_valid.ensures.topics.ordered c.in-Some.ensures c.loop-name.rows _ _ c.in_ok-add.ensures c.loop-name.invariant

pub loop-name-smaller : goal.loop-name-smaller
loop-name-smaller g c =
    let image = c.args.seen.now in
    entry_less text_total image.topics (option_copied c.loop-name.after) (c.in-Some.name.now, c.in-Some.id.now) c.is_valid.ensures.topics.ordered c.in-Some.ensures

pub returns : goal.returns
returns g c =
    let image = c.args.seen.now in
    entry_over text_total (g.P.TopicPart.part c.args.part.now image) image.topics (option_copied c.loop-name.after) c.in_default.ensures c.loop-name.rows _ c.loop-name.invariant
