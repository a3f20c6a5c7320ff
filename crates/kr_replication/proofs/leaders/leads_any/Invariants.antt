use Rattle.std.proofs.Common.{◌≡◌}
use Rattle.kr_replication.specs.ListedWalks.{leads_any}
use Rattle.kr_replication.proofs.leaders.leads_any.Given as goal

abbrev pub invariant-loop-key : goal.invariant-loop-key
invariant-loop-key g l = leads_any l.seen.partitions l.broker l.key-iterator ≡ leads_any l.seen.partitions l.broker l.keys
