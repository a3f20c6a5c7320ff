use Rattle.std.proofs.Common.{length}
use Rattle.testlib_rule_answers.proofs.heartbeats.+is_up_to.Given as goal

abbrev pub decreases-is_up_to : goal.decreases-is_up_to
decreases-is_up_to l = length l.others.now
