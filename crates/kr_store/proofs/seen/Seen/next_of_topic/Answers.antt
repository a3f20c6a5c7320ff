use Rattle.kr_defs.proofs.TopicWalks.{group_next, group_end, group_none}
use Rattle.kr_store.proofs.seen.Seen.next_of_topic.Goals as goal

pub returns-then-key-after-clause-next : goal.returns-then-key-after-clause-next
returns-then-key-after-clause-next g c =
    group_next c.args.self.now.partitions c.is_valid.ensures.partitions.ordered c.args.after.now (c.in-Some.key.now, c.in-Some.partition.now) c.in-Some.ensures c.if-key-after.true

pub returns-else-key-after-clause-none : goal.returns-else-key-after-clause-none
returns-else-key-after-clause-none g c none =
    group_end c.args.self.now.partitions c.is_valid.ensures.partitions.ordered c.args.after.now (c.in-Some.key.now, c.in-Some.partition.now) c.in-Some.ensures c.if-key-after.false

pub returns-in-None-clause-none : goal.returns-in-None-clause-none
returns-in-None-clause-none g c none =
    group_none c.args.self.now.partitions c.is_valid.ensures.partitions.ordered c.args.after.now c.in-None.ensures
