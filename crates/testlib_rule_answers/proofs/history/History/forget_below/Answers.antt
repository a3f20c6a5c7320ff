use Rattle.std.proofs.Common.{int_lt, not}
use Rattle.testlib_rule_answers.proofs.ClosedStores.{closed_forgotten}
use Rattle.testlib_rule_answers.proofs.EpochRows.{dropped}
use Rattle.testlib_rule_answers.proofs.history.History.forget_below.Goals as goal

pub invariant_of-self : goal.invariant_of-self
invariant_of-self g c =
    rw (c.drop_below.ensures, c.forget_store.ensures) (
      dropped c.self.inside.store.kept c.self.inside.epochs.items c.self.invariant.0 (λ e. not (int_lt e c.args.epoch.now)),
      closed_forgotten c.self.inside.store c.args.epoch.now c.self.invariant.1,
    )
