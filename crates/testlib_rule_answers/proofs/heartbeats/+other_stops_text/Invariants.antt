use Rattle.std.proofs.Common.{length}
use Rattle.testlib_rule_answers.proofs.heartbeats.+other_stops_text.Given as goal

abbrev pub decreases-other_stops_text : goal.decreases-other_stops_text
decreases-other_stops_text l = length l.stopping.now
