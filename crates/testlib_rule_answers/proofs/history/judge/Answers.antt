use Rattle.testlib_rule_answers.proofs.ClosedStores.{closed_failed}
use Rattle.testlib_rule_answers.proofs.history.judge.Goals as goal

pub returns-in-Err-clause-closed : goal.returns-in-Err-clause-closed
returns-in-Err-clause-closed g c = closed_failed _ _ c.in-Err.fault _ _ c.in-Err.ensures.applied c.in-Err.ensures.kept_begun
