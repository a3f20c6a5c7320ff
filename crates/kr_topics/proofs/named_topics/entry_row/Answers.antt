use Rattle.std.proofs.Common.{◌∙◌, sym}
use Rattle.std.proofs.lemmas.Result.{IfOk-weaker}
use Rattle.kr_topics.proofs.MetadataRows.{row-first, row-again}
use Rattle.kr_topics.proofs.named_topics.entry_row.Goals as goal

pub returns-then-branch-clause-row : goal.returns-then-branch-clause-row
returns-then-branch-clause-row g c ids marks =
    let image = c.args.seen.now in
    let topic = c.in-Ok.topic.now in
    IfOk-weaker c.topic_row.result _ _ (λ row is. is ∙ row-first image c.args.entry.now ids (topic.name, topic.id) c.in-Ok.ensures.some (sym c.if-branch.true ∙ c.in_ok-mark-in-Ok.ensures.new ids marks)) c.topic_row.ensures

pub returns-else-branch-clause-row : goal.returns-else-branch-clause-row
returns-else-branch-clause-row g c ids marks =
    let image = c.args.seen.now in
    let topic = c.in-Ok.topic.now in
    IfOk-weaker c.refusal_row.result _ _ (λ row is. is ∙ row-again image c.args.entry.now ids (topic.name, topic.id) c.in-Ok.ensures.some (sym c.if-branch.false ∙ c.in_ok-mark-in-Ok.ensures.new ids marks)) c.refusal_row.ensures
