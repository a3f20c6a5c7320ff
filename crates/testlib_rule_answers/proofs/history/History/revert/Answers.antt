use Rattle.testlib_rule_answers.proofs.ClosedStores.{closed_reverted}
use Rattle.testlib_rule_answers.proofs.EpochRows.{reverted_epochs}
use Rattle.testlib_rule_answers.proofs.history.History.revert.Goals as goal

pub invariant_of-self-2 : goal.invariant_of-self-2
invariant_of-self-2 g c =
    rw (c.drop_above.ensures) (
      reverted_epochs c.self.inside.store c.revert_store.new.store c.self.inside.epochs.items c.args.epoch.now c.self.invariant.0 c.in_ok-revert_store.ensures.ok,
      closed_reverted c.self.inside.store c.revert_store.new.store c.args.epoch.now c.in_ok-revert_store.ensures.ok c.self.invariant.1,
    )
