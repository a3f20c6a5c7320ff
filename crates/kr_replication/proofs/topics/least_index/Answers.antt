use Rattle.std.proofs.Common.{negsuc, refl}
use Rattle.kr_replication.proofs.Counts.{none_at_all, reached}
use Rattle.kr_replication.proofs.topics.least_index.Goals as goal

pub returns-in-Some-clause-some : goal.returns-in-Some-clause-some
returns-in-Some-clause-some g c =
    let next = rw c.before_all.ensures at c.in-Some.ensures.next in
    rw c.index_of.ensures (reached c.args.id.now (c.args.id.now, negsuc 0) c.args.seen.now.partitions (c.in-Some.key.now, c.in-Some._partition.now) _ next)

pub returns-in-None-clause-none : goal.returns-in-None-clause-none
returns-in-None-clause-none g c none =
    let rest = rw c.before_all.ensures at (c.in-None.ensures.none refl) in
    none_at_all c.args.id.now c.args.seen.now.partitions c.is_valid.ensures.partitions.indexes rest
