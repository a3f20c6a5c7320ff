use Rattle.std.proofs.Common.{length}
use Rattle.testlib_rule_answers.proofs.heartbeats.+is_stopping.Given as goal

abbrev pub decreases-is_stopping : goal.decreases-is_stopping
decreases-is_stopping l = length l.stopping.now
