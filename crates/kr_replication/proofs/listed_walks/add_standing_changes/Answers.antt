use Rattle.kr_replicas.specs.BrokerPartitions.{has_standing_by}
use Rattle.kr_replication.proofs.listed_walks.add_standing_changes.Goals as goal

pub add_changes_of_keys-requires : goal.add_changes_of_keys-requires
add_changes_of_keys-requires g c = record { test = has_standing_by; least = c.standing_keys-keys.ensures; concerns = c.requires }
