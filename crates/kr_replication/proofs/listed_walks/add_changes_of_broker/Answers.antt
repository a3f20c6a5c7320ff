use Rattle.kr_replicas.specs.BrokerPartitions.{has_replica}
use Rattle.kr_replication.proofs.ListedWalks.{nothing_changes}
use Rattle.kr_replication.proofs.listed_walks.add_changes_of_broker.Goals as goal

pub add_changes_of_keys-requires : goal.add_changes_of_keys-requires
add_changes_of_keys-requires g c = record { test = has_replica c.args.broker.now; least = c.in-Some.ensures; concerns = c.requires }

pub returns-in-None : goal.returns-in-None
returns-in-None g c =
    nothing_changes (g.C.Change.change c.args.rule.now c.args.seen.now) c.args.seen.now (has_replica c.args.broker.now) c.args.records.now c.is_valid.ensures c.in-None.ensures c.requires
