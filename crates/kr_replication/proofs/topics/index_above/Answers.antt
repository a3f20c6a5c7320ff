use Rattle.std.proofs.Common.{pos, refl}
use Rattle.kr_replication.proofs.Counts.{greater_index, none_above, reached}
use Rattle.kr_replication.proofs.topics.index_above.Goals as goal

pub returns-in-Some-clause-greater : goal.returns-in-Some-clause-greater
returns-in-Some-clause-greater g c =
    let next = rw c.key_at.ensures at c.in-Some.ensures.next in
    rw c.index_of.ensures (greater_index c.args.id.now c.args.index c.args.seen.now.partitions (c.in-Some.key.now, c.in-Some._partition.now) _ next)

pub returns-in-Some-clause-some : goal.returns-in-Some-clause-some
returns-in-Some-clause-some g c =
    let next = rw c.key_at.ensures at c.in-Some.ensures.next in
    rw c.index_of.ensures (reached c.args.id.now (c.args.id.now, pos c.args.index) c.args.seen.now.partitions (c.in-Some.key.now, c.in-Some._partition.now) _ next)

pub returns-in-None-clause-none : goal.returns-in-None-clause-none
returns-in-None-clause-none g c none =
    let rest = rw c.key_at.ensures at (c.in-None.ensures.none refl) in
    none_above c.args.id.now c.args.seen.now.partitions c.is_valid.ensures.partitions.indexes c.args.index rest
