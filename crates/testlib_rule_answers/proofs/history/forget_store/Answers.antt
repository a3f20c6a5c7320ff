use Rattle.testlib_rule_answers.proofs.ClosedStores.{begun_from}
use Rattle.testlib_rule_answers.proofs.history.forget_store.Goals as goal

pub forget_below-requires : goal.forget_below-requires
forget_below-requires g c = begun_from c.args.store.now _ c.requires
