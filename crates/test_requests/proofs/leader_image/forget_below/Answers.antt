use Rattle.std.proofs.Common.{sym, subst}
use Rattle.testlib_rule_answers.specs.Histories.{AreClosed}
use Rattle.testlib_rule_answers.proofs.ClosedStores.{begun_from, closed_forgotten}
use Rattle.test_requests.proofs.leader_image.forget_below.Goals as goal

pub forget_below-requires : goal.forget_below-requires
forget_below-requires g c = begun_from c.args.store.now _ c.requires

pub returns-clause-closed : goal.returns-clause-closed
returns-clause-closed g c = subst AreClosed (sym c.forget_below.ensures.images) (closed_forgotten c.args.store.now _ c.requires)
