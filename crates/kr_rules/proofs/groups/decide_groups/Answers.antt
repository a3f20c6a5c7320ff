use Rattle.std.proofs.Common.{◌≤◌, ◌+◌, ◌∙◌, ap, arith, w64}
use Rattle.std.proofs.lemmas.Int.{to_z-of_z}
use Rattle.kr_calls.specs.Deciding as deciding
use Rattle.kr_calls.specs.Deciding.{Work, weights}
use Rattle.kr_rules.specs.Progress.{base_of}
use Rattle.kr_rules.proofs.RecordLists.{begun_at, drawn_from, kept_base}
use Rattle.kr_rules.proofs.groups.decide_groups.Goals as goal

pub returns-clause-answers : goal.returns-clause-answers
returns-clause-answers g c =
    c.in_ok-answers.ensures.answers
    ∙ ap (λ (w : Work). deciding.group_answers (g.R.ItemRule.refusal c.args.rule.now) (g.R.ItemRule.rule c.args.rule.now) g.R.Groups.entries_of g.R.Groups.answer_of w c.args.groups.now) (begun_at c.new-work.result c.args.place (g.S.Store.images c.args.store.now).tip (c.new-work.ensures ∙ ap drawn_from (to_z-of_z w64 c.args.place c.ranges.place)))

pub returns-clause-made : goal.returns-clause-made
returns-clause-made g c =
    let images = g.S.Store.images c.args.store.now in
    let start : images.made ≤ images.made + weights (base_of images) c.new-work.result.records = omega arith in
    rw (c.into_records.ensures, ← (kept_base _ images images.tip c.in_ok-answers.ensures.kept c.requires.kept)) (c.in_ok-answers.ensures.made images.made start)
