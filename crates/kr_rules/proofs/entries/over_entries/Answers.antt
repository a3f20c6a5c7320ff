use Rattle.std.proofs.Common.{◌∙◌, arith}
use Rattle.kr_rules.specs.Progress.{work_at}
use Rattle.kr_rules.specs.Costs.{cost}
use Rattle.kr_rules.proofs.EntryCosts.{spend_here}
use Rattle.kr_rules.proofs.SingleEntries.{answers_more, after_more}
use Rattle.kr_rules.proofs.entries.over_entries.Goals as goal

pub loop-entry-preserved : goal.loop-entry-preserved
loop-entry-preserved g c =
    let w = work_at c.loop-entry.work (g.S.Store.images c.loop-entry.store).tip in
    record {
      told = rw c.in_ok-push.ensures.ok (answers_more (g.R.Rule.refusal c.args.rule.now) (g.R.Rule.rule c.args.rule.now) w c.entry-item.result c.args.entries.now c.loop-entry.entry-index c.loop-entry-test.true c.entry-item.is _ _ c.in_ok-one.ensures.done c.loop-entry.answers ∙ c.loop-entry.invariant.told);
      rest = after_more (g.R.Rule.refusal c.args.rule.now) (g.R.Rule.rule c.args.rule.now) w c.entry-item.result c.args.entries.now c.loop-entry.entry-index c.loop-entry-test.true c.entry-item.is _ _ c.in_ok-one.ensures.done ∙ c.loop-entry.invariant.rest;
      some = rw c.in_ok-one.ensures.kept c.loop-entry.invariant.some;
      leads = c.in_ok-one.ensures.leads;
      same = c.in_ok-one.ensures.kept ∙ c.loop-entry.invariant.same;
      calls = c.in_ok-one.ensures.calls ∙ c.loop-entry.invariant.calls;
      begins = c.in_ok-one.ensures.begins ∙ c.loop-entry.invariant.begins;
      settled = λ before. c.in_ok-one.ensures.settled (c.loop-entry.invariant.settled before);
      start = c.in_ok-one.ensures.start ∙ c.loop-entry.invariant.start;
      made = λ so_far before. c.in_ok-one.ensures.made so_far (c.loop-entry.invariant.made so_far before);
      own = spend_here (g.R.Rule.refusal c.args.rule.now) (g.R.Rule.rule c.args.rule.now) w _ _ c.args.entries.now c.loop-entry.entry-index c.entry-item.result c.loop-entry.steps _ (cost (g.R.Rule.refusal c.args.rule.now) (g.R.Rule.rule c.args.rule.now) (work_at c.args.work.now (g.S.Store.images c.args.store.now).tip) c.args.entries.now) c.loop-entry-test.true c.entry-item.is c.in_ok-one.ensures.done c.in_ok-one.ensures.own c.args.steps.now c.loop-entry.invariant.own;
      later = omega (arith, c.loop-entry.invariant.later, c.in_ok-one.ensures.later);
    }
