use Rattle.std.proofs.Common.{◌∙◌, ◌++◌, ap}
use Rattle.kr_brokers.proofs.UnfencedBrokers.{elections_once_unfenced, electing_concerns}
use Rattle.kr_brokers.proofs.elections.add_elections.Goals as goal

pub returns : goal.returns
returns g c =
    (rw c.candidate_of-rule.ensures at c.in_ok-add_changes_of_broker.ensures)
    ∙ ap (λ rs. c.args.records.now ++ rs) (elections_once_unfenced c.args.minimum.now c.args.broker.now c.args.seen.now c.args.state.now c.is_valid.ensures.brokers.ordered c.requires)

pub add_changes_of_broker-requires : goal.add_changes_of_broker-requires
add_changes_of_broker-requires g c = rw c.candidate_of-rule.ensures (electing_concerns c.args.minimum.now c.args.broker.now c.args.seen.now)
