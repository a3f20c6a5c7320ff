use Rattle.kr_replication.proofs.ListedWalks.{taking_concerns}
use Rattle.kr_replication.proofs.taking_out.take_out.Goals as goal

pub add_changes_of_broker-requires : goal.add_changes_of_broker-requires
add_changes_of_broker-requires g c =
    rw c.leaver_of-rule.ensures (taking_concerns c.args.minimum.now c.args.seen.now c.args.broker.now c.args.restarted)
