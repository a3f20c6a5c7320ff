use Rattle.std.proofs.Common.{◌∙◌}
use Rattle.kr_configs.specs.inner.NewSettings.{after}
use Rattle.kr_configs.proofs.RelievedPartitions.{no_topic_reliefs, relief_concerns, topic_reliefs}
use Rattle.kr_configs.proofs.reliefs.add_topic_reliefs.Goals as goal

pub returns-in_ok-add_standing_changes_of_topic-in-Some : goal.returns-in_ok-add_standing_changes_of_topic-in-Some
returns-in_ok-add_standing_changes_of_topic-in-Some g c =
    let image = c.args.seen.now in
    let relief = c.args.relief.now in
    c.in_ok-add_standing_changes_of_topic-in-Some.ensures ∙ topic_reliefs image relief.entry.now relief.values.now c.is_valid.ensures.configs.ordered c.are_once.ensures c.requires relief.options.now c.in-Some.id c.in-Some.ensures c.is_valid.ensures.topics.ordered c.args.records.now

pub returns-in-None : goal.returns-in-None
returns-in-None g c =
    let image = c.args.seen.now in
    let relief = c.args.relief.now in
    no_topic_reliefs image relief.entry.now relief.values.now c.is_valid.ensures.configs.ordered c.are_once.ensures c.requires relief.options.now c.in-None.ensures c.is_valid.ensures.topics.ordered c.args.records.now

pub add_standing_changes_of_topic-requires : goal.add_standing_changes_of_topic-requires
add_standing_changes_of_topic-requires g c =
    let image = c.args.seen.now in
    let relief = c.args.relief.now in
    relief_concerns relief.options.now image (after image relief.entry.now relief.values.now)
