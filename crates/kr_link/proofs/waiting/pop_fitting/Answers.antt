use Rattle.std.proofs.Common.{◌∙◌, sym, arith}
use Rattle.kr_link.proofs.Grouping.{all_stay, none_fits, one_fits, others_stay}
use Rattle.kr_link.proofs.waiting.pop_fitting.Goals as goal

pub returns-then-not-is_first_within-clause-first : goal.returns-then-not-is_first_within-clause-first
returns-then-not-is_first_within-clause-first c = sym (none_fits c.args.room c.args.waits.now.items (sym c.is_first_within.ensures ∙ c.if-not-is_first_within.true))

pub returns-then-not-is_first_within-clause-rest : goal.returns-then-not-is_first_within-clause-rest
returns-then-not-is_first_within-clause-rest c = sym (all_stay c.args.room c.args.waits.now.items (sym c.is_first_within.ensures ∙ c.if-not-is_first_within.true))

pub returns-clause-first : goal.returns-clause-first
returns-clause-first c =
    one_fits c.args.room c.args.waits.now.items c.pop_front.result (sym c.is_first_within.ensures ∙ c.if-not-is_first_within.false)
    (λ d some. c.pop_front.ensures.value d (omega (arith, c.args.waits.now.ok)))

pub returns-clause-rest : goal.returns-clause-rest
returns-clause-rest c = others_stay c.args.room c.args.waits.now.items _ (sym c.is_first_within.ensures ∙ c.if-not-is_first_within.false) c.pop_front.ensures.rest
