use Rattle.testlib_rule_answers.proofs.ClosedStores.{mark_closes}
use Rattle.testlib_rule_answers.proofs.history.mark_store.Goals as goal

pub returns-clause-closed : goal.returns-clause-closed
returns-clause-closed c = mark_closes c.mark.result c.args.store.now c.mark.new.self _ c.mark.ensures.ok c.mark.ensures.err
