use Rattle.std.proofs.Common.{◌-◌}
use Rattle.kr_replication.proofs.topics.+greatest_index.Given as goal

abbrev pub decreases-greatest_index : goal.decreases-greatest_index
decreases-greatest_index g l = l.high - l.low
