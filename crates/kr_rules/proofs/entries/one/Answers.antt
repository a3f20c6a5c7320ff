use Rattle.std.proofs.Common.{arith}
use Rattle.std.proofs.lemmas.Result.{IfOk-weaker}
use Rattle.kr_rules.specs.Progress.{work_at}
use Rattle.kr_rules.proofs.SingleEntries.{on_ok, one_taken, one_limited, one_refused}
use Rattle.kr_rules.proofs.EntryCosts.{if_any, own_draft}
use Rattle.kr_rules.proofs.entries.one.Goals as goal

pub returns-then-branch-clause-done : goal.returns-then-branch-clause-done
returns-then-branch-clause-done g c =
    one_taken (g.R.Rule.refusal c.args.rule.now) (g.R.Rule.rule c.args.rule.now) (work_at c.args.work.now (g.S.Store.images c.args.store.now).tip) c.args.entry.now c.in-Ok.field-0 _ (rw c.tip-seen.ensures at c.in-Ok.ensures) (rw c.if-branch.true at c.in_ok-take-in-Ok.ensures.taken)

pub returns-else-branch-clause-done : goal.returns-else-branch-clause-done
returns-else-branch-clause-done g c =
    let took = rw c.if-branch.false at c.in_ok-take-in-Ok.ensures.taken in
    rw took.1 (IfOk-weaker c.refusal.result _ _ (λ answer is. one_limited (g.R.Rule.refusal c.args.rule.now) (g.R.Rule.rule c.args.rule.now) (work_at c.args.work.now (g.S.Store.images c.args.store.now).tip) c.args.entry.now c.in-Ok.field-0 answer (rw c.tip-seen.ensures at c.in-Ok.ensures) took.0 is) c.refusal.ensures)

pub returns-else-branch-clause-made : goal.returns-else-branch-clause-made
returns-else-branch-clause-made g c so_far before = on_ok c.refusal.result (c.in_ok-take-in-Ok.ensures.made so_far before)

pub returns-in-Err-clause-done : goal.returns-in-Err-clause-done
returns-in-Err-clause-done g c =
    IfOk-weaker c.answer_to.result _ _ (λ answer is. one_refused (g.R.Rule.refusal c.args.rule.now) (g.R.Rule.rule c.args.rule.now) (work_at c.args.work.now (g.S.Store.images c.args.store.now).tip) c.args.entry.now c.in-Err.refusal answer (rw c.tip-seen.ensures at c.in-Err.ensures) is) c.answer_to.ensures

pub returns-then-branch-clause-own : goal.returns-then-branch-clause-own
returns-then-branch-clause-own g c = own_draft (g.S.Store.images c.args.store.now).tip _ c.in-Ok.field-0 _ (rw c.tip-seen.ensures at c.in-Ok.ensures) (λ ordinary. c.in_ok-take-in-Ok.ensures.own ordinary)

pub returns-else-branch-clause-own : goal.returns-else-branch-clause-own
returns-else-branch-clause-own g c = own_draft (g.S.Store.images c.args.store.now).tip _ c.in-Ok.field-0 _ (rw c.tip-seen.ensures at c.in-Ok.ensures) (λ ordinary. on_ok c.refusal.result (c.in_ok-take-in-Ok.ensures.own ordinary))

pub returns-in-Err-clause-own : goal.returns-in-Err-clause-own
returns-in-Err-clause-own g c = if_any _ (λ n. on_ok c.answer_to.result (omega arith))
