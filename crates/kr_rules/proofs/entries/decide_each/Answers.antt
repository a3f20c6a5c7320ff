use Rattle.std.proofs.Common.{◌≤◌, ◌+◌, arith}
use Rattle.kr_calls.specs.Deciding.{weights}
use Rattle.kr_rules.specs.Progress.{base_of}
use Rattle.kr_rules.proofs.RecordLists.{kept_base}
use Rattle.kr_rules.proofs.entries.decide_each.Goals as goal

pub returns-clause-made : goal.returns-clause-made
returns-clause-made g c =
    let images = g.S.Store.images c.args.store.now in
    let start : images.made ≤ images.made + weights (base_of images) c.new-work.result.records = omega arith in
    rw (c.into_records.ensures, ← (kept_base _ images images.tip c.in_ok-answers.ensures.kept c.requires.kept)) (c.in_ok-answers.ensures.made images.made start)
