use Rattle.std.proofs.Common.{◌∙◌, ap, false}
use Rattle.std.specs.Option.{option_map_or}
use Rattle.kr_defs.specs.Brokers.{is_active}
use Rattle.kr_balance.proofs.ActiveIds.{active_by_id}
use Rattle.kr_balance.proofs.counts.is_active.Goals as goal

pub returns : goal.returns
returns g c =
    c.is_ready.ensures ∙ (ap (λ o. option_map_or is_active o false) c.broker.ensures ∙ active_by_id c.args.seen.now.brokers c.args.id.now c.is_valid.ensures.brokers.ordered)
