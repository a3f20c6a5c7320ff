use Rattle.std.proofs.Common.{take}
use Rattle.kr_partitions.specs.inner.RequestKeys.{AreKeys}
use Rattle.kr_partitions.proofs.request_keys.keys_of.Given as goal

abbrev pub invariant-loop-topic : goal.invariant-loop-topic
invariant-loop-topic g l = AreKeys l.seen.topics (take l.topic-index l.topics) l.keys
