use Rattle.std.proofs.Common.{length}
use Rattle.kr_replication.proofs.collision.+add_least_above.Given as goal

abbrev pub decreases-add_least_above : goal.decreases-add_least_above
decreases-add_least_above l = length l.name.now
