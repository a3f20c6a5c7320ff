use Rattle.std.proofs.Common.{◌≡◌, fold, take}
use Rattle.kr_defs.specs.Heartbeats.{end}
use Rattle.testlib_rule_answers.specs.HeartbeatWords.{heartbeats_with}
use Rattle.testlib_rule_answers.proofs.heartbeats.heartbeats_answer.Given as goal

abbrev pub invariant-loop-operation : goal.invariant-loop-operation
invariant-loop-operation l = l.sessions.heartbeats ≡ fold heartbeats_with end (take l.operation-index l.operations)
