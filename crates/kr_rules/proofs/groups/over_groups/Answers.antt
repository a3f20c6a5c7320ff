use Rattle.std.proofs.Common.{◌∙◌, arith}
use Rattle.kr_rules.specs.Progress.{work_at}
use Rattle.kr_rules.specs.Costs.{group_cost}
use Rattle.kr_rules.proofs.EntryCosts.{spend_group}
use Rattle.kr_rules.proofs.SingleEntries.{group_answers_more, after_groups_more}
use Rattle.kr_rules.proofs.groups.over_groups.Goals as goal

pub loop-group-preserved : goal.loop-group-preserved
loop-group-preserved g c =
    let w = work_at c.loop-group.work (g.S.Store.images c.loop-group.store).tip in
    let refused = g.R.ItemRule.refusal c.args.rule.now in
    let rule = g.R.ItemRule.rule c.args.rule.now in
    record {
      told = rw c.in_ok-push.ensures.ok (group_answers_more refused rule g.R.Groups.entries_of g.R.Groups.answer_of w c.group-item.result c.args.groups.now c.loop-group.group-index c.loop-group-test.true c.group-item.is _ _ c.in_ok-over_group.ensures.after c.in_ok-over_group.ensures.answer c.loop-group.answers ∙ c.loop-group.invariant.told);
      rest = after_groups_more refused rule g.R.Groups.entries_of g.R.Groups.answer_of w c.group-item.result c.args.groups.now c.loop-group.group-index c.loop-group-test.true c.group-item.is _ c.in_ok-over_group.ensures.after ∙ c.loop-group.invariant.rest;
      some = rw c.in_ok-over_group.ensures.kept c.loop-group.invariant.some;
      leads = c.in_ok-over_group.ensures.leads;
      same = c.in_ok-over_group.ensures.kept ∙ c.loop-group.invariant.same;
      calls = c.in_ok-over_group.ensures.calls ∙ c.loop-group.invariant.calls;
      begins = c.in_ok-over_group.ensures.begins ∙ c.loop-group.invariant.begins;
      settled = λ before. c.in_ok-over_group.ensures.settled (c.loop-group.invariant.settled before);
      start = c.in_ok-over_group.ensures.start ∙ c.loop-group.invariant.start;
      made = λ so_far before. c.in_ok-over_group.ensures.made so_far (c.loop-group.invariant.made so_far before);
      own = spend_group refused rule g.R.Groups.entries_of w _ c.args.groups.now c.loop-group.group-index c.group-item.result c.loop-group.steps _ (group_cost refused rule g.R.Groups.entries_of (work_at c.args.work.now (g.S.Store.images c.args.store.now).tip) c.args.groups.now) c.loop-group-test.true c.group-item.is c.in_ok-over_group.ensures.after c.in_ok-over_group.ensures.own c.args.steps.now c.loop-group.invariant.own;
      later = omega (arith, c.loop-group.invariant.later, c.in_ok-over_group.ensures.later);
    }
