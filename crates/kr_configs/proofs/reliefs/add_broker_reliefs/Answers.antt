use Rattle.std.proofs.Common.{◌∙◌, sym}
use Rattle.kr_defs.specs.Walk.{walk}
use Rattle.kr_configs.specs.inner.NewSettings.{after}
use Rattle.kr_configs.proofs.RelievedPartitions.{no_broker_reliefs, relief_concerns}
use Rattle.kr_configs.proofs.reliefs.add_broker_reliefs.Goals as goal

pub returns-else-is_empty : goal.returns-else-is_empty
returns-else-is_empty g c =
    let image = c.args.seen.now in
    let relief = c.args.relief.now in
    no_broker_reliefs image relief.entry.now relief.values.now c.is_valid.ensures.configs.ordered c.are_once.ensures c.requires (sym c.is_empty.ensures ∙ c.if-is_empty.false) relief.options.now (walk image) c.args.records.now

pub add_standing_changes-requires : goal.add_standing_changes-requires
add_standing_changes-requires g c =
    let image = c.args.seen.now in
    let relief = c.args.relief.now in
    relief_concerns relief.options.now image (after image relief.entry.now relief.values.now)
