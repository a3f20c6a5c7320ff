use Rattle.std.proofs.Common.{◌≡◌, ◌∙◌, ap, sym}
use Rattle.std.proofs.lemmas.Result.{IfOk-weaker}
use Rattle.kr_calls.specs.Deciding as deciding
use Rattle.kr_rules.specs.Costs.{cost}
use Rattle.kr_rules.specs.Progress.{work_at}
use Rattle.kr_rules.proofs.SingleEntries.{on_ok, answers_mapped, after_mapped}
use Rattle.kr_rules.proofs.EntryCosts.{cost_mapped, if_same}
use Rattle.kr_rules.proofs.groups.over_group.Goals as goal

pub returns-clause-answer : goal.returns-clause-answer
returns-clause-answer g c =
    let refused = g.R.ItemRule.refusal c.args.rule.now in
    let rule = g.R.ItemRule.rule c.args.rule.now in
    let w = work_at c.args.work.now (g.S.Store.images c.args.store.now).tip in
    let is : c.in_ok-answers.answers ≡ deciding.answers refused rule w (g.R.Groups.entries_of c.args.group.now) = c.in_ok-answers.ensures.answers ∙ (answers_mapped refused rule (λ item. (c.members.result.0.now, item)) w c.members.result.1.now ∙ ap (deciding.answers refused rule w) (sym c.members.ensures)) in
    IfOk-weaker c.answer.result _ _ (λ answer made. made ∙ ap (g.R.Groups.answer_of c.args.group.now) is) c.answer.ensures

pub returns-clause-after : goal.returns-clause-after
returns-clause-after g c =
    let refused = g.R.ItemRule.refusal c.args.rule.now in
    let rule = g.R.ItemRule.rule c.args.rule.now in
    let w = work_at c.args.work.now (g.S.Store.images c.args.store.now).tip in
    on_ok c.answer.result (c.in_ok-answers.ensures.after ∙ (after_mapped refused rule (λ item. (c.members.result.0.now, item)) w c.members.result.1.now ∙ ap (deciding.after_all refused rule w) (sym c.members.ensures)))

pub returns-clause-made : goal.returns-clause-made
returns-clause-made g c so_far before = on_ok c.answer.result (c.in_ok-answers.ensures.made so_far before)

pub returns-clause-own : goal.returns-clause-own
returns-clause-own g c =
    let refused = g.R.ItemRule.refusal c.args.rule.now in
    let rule = g.R.ItemRule.rule c.args.rule.now in
    let w = work_at c.args.work.now (g.S.Store.images c.args.store.now).tip in
    let is = cost_mapped refused rule (λ item. (c.members.result.0.now, item)) w c.members.result.1.now ∙ ap (cost refused rule w) (sym c.members.ensures) in
    if_same _ _ is (λ n less. on_ok c.answer.result less) c.in_ok-answers.ensures.own
