use Rattle.std.proofs.Common.{◌∷◌, []}
use Rattle.kr_defs.specs.Brokers.{is_active}
use Rattle.kr_replication.proofs.BrokerIds.{ids_without}
use Rattle.kr_replication.proofs.electing.build_without.Goals as goal

pub returns : goal.returns
returns g c =
    let made = rw c.others_than-others.ensures at c.build_with.ensures in
    rw (ids_without (λ e. is_active e.1) (c.args.broker.now ∷ []) c.args.seen.now.brokers) made
