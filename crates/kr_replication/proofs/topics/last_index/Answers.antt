use Rattle.kr_replication.proofs.Counts.{up_to_last}
use Rattle.kr_replication.proofs.topics.last_index.Goals as goal

pub returns-clause-count : goal.returns-clause-count
returns-clause-count g c =
    rw c.unsigned_abs.ensures.value (up_to_last c.args.id.now c.args.seen.now.partitions c.is_valid.ensures.partitions.indexes)
