use Rattle.std.proofs.Common.{arith, ap, subst, sym, ◌+◌, ◌<◌}
use Rattle.kr_balance.specs.declared.counts.Tally.{Tally}
use Rattle.kr_balance.proofs.counts.count_one.Goals as goal

pub overflow_add-imbalanced : goal.overflow_add-imbalanced
overflow_add-imbalanced c = let e = ap (λ (t : Tally). t.imbalanced) c.tally_of-old.ensures in let r = c.requires.imbalanced in omega (arith, e, r)

pub overflow_add-new : goal.overflow_add-new
overflow_add-new c = let e = ap (λ (t : Tally). t.preferring) c.tally_of-old.ensures in let r = c.requires.preferring in omega (arith, e, r)
