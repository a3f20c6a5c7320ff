use Rattle.std.specs.Option.{option_copied}
use Rattle.kr_defs.proofs.ImageParts.{text_total}
use Rattle.kr_listing.proofs.WalkGathering.{entry_more, entry_over, entry_less}
use Rattle.kr_listing.proofs.gathering.add_features.Goals as goal

pub loop-name-preserved : goal.loop-name-preserved
loop-name-preserved g c =
    let features = c.args.seen.now.features in
    entry_more text_total (g.P.FeaturePart.part c.args.part.now) features (option_copied c.loop-name.after) (c.in-Some.name.now, c.in-Some.level.now) c.is_valid.ensures.features.ordered c.in-Some.ensures c.loop-name.rows _ _ c.in_ok-add.ensures c.loop-name.invariant

pub loop-name-smaller : goal.loop-name-smaller
loop-name-smaller g c =
    let features = c.args.seen.now.features in
    entry_less text_total features (option_copied c.loop-name.after) (c.in-Some.name.now, c.in-Some.level.now) c.is_valid.ensures.features.ordered c.in-Some.ensures

pub returns : goal.returns
returns g c =
    let features = c.args.seen.now.features in
    entry_over text_total (g.P.FeaturePart.part c.args.part.now) features (option_copied c.loop-name.after) c.in_default.ensures c.loop-name.rows _ c.loop-name.invariant
