use Rattle.std.proofs.Common.{◌∙◌, ap, false}
use Rattle.std.specs.Option.{option_map_or}
use Rattle.kr_defs.specs.Brokers.{is_active}
use Rattle.kr_topics.proofs.ActiveBrokers.{active_by_id}
use Rattle.kr_topics.proofs.partitions.is_active_id.Goals as goal

pub returns-in-Some : goal.returns-in-Some
returns-in-Some g c =
    let image = c.args.seen.now in
    c.is_active.ensures ∙ ap (λ o. option_map_or is_active o false) c.in-Some.ensures ∙ active_by_id image.brokers c.args.id.now c.is_valid.ensures.brokers.ordered

pub returns-in-None : goal.returns-in-None
returns-in-None g c =
    let image = c.args.seen.now in
    ap (λ o. option_map_or is_active o false) c.in-None.ensures ∙ active_by_id image.brokers c.args.id.now c.is_valid.ensures.brokers.ordered
