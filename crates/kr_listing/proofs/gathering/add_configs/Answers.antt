use Rattle.std.specs.Option.{option_copied}
use Rattle.kr_defs.proofs.ImageParts.{config_total}
use Rattle.kr_listing.proofs.WalkGathering.{entry_more, entry_over, entry_less}
use Rattle.kr_listing.proofs.gathering.add_configs.Goals as goal

pub loop-key-preserved : goal.loop-key-preserved
loop-key-preserved g c =
    let configs = c.args.seen.now.configs in
    entry_more config_total (g.P.ConfigPart.part c.args.part.now) configs (option_copied c.loop-key.after) (c.in-Some.key.now, c.in-Some.value.now) c.is_valid.ensures.configs.ordered c.in-Some.ensures c.loop-key.rows _ _ c.in_ok-add.ensures c.loop-key.invariant

pub loop-key-smaller : goal.loop-key-smaller
loop-key-smaller g c =
    let configs = c.args.seen.now.configs in
    entry_less config_total configs (option_copied c.loop-key.after) (c.in-Some.key.now, c.in-Some.value.now) c.is_valid.ensures.configs.ordered c.in-Some.ensures

pub returns : goal.returns
returns g c =
    let configs = c.args.seen.now.configs in
    entry_over config_total (g.P.ConfigPart.part c.args.part.now) configs (option_copied c.loop-key.after) c.in_default.ensures c.loop-key.rows _ c.loop-key.invariant
