use Rattle.std.proofs.Common.{◌∙◌, ap}
use Rattle.std.proofs.lemmas.Result.{IfOk-weaker}
use Rattle.kr_calls.specs.Deciding.{Work, nothing_decided, after_all, answers, unless_validating}
use Rattle.kr_calls.specs.Refuse.{refused_create_topics}
use Rattle.kr_topics.specs.inner.EntryRules.{create_topics_by_racks}
use Rattle.kr_topics.proofs.EarlyRefusals.{create_topics_after, create_topics_answers}
use Rattle.kr_topics.proofs.create_topics.decide_create_topics.Goals as goal

pub returns-clause-answers : goal.returns-clause-answers
returns-clause-answers g c =
    let those = c.in_ok-those.those in
    let start : Work = nothing_decided c.args.place.now (g.S.Store.images c.args.store.now).tip in
    let validate_only = c.args.request.now.validate_only in
    IfOk-weaker c.decide_on.result _ _ (λ d is. is ∙ (ap (answers refused_create_topics (create_topics_by_racks those c.args.options.now validate_only) start) c.as_slice-topics.ensures ∙ create_topics_answers those c.args.options.now validate_only start c.args.request.now.topics (rw c.tip.ensures at c.in_ok-those.ensures))) c.decide_on.ensures.answers

pub returns-clause-after : goal.returns-clause-after
returns-clause-after g c =
    let those = c.in_ok-those.those in
    let start : Work = nothing_decided c.args.place.now (g.S.Store.images c.args.store.now).tip in
    let validate_only = c.args.request.now.validate_only in
    IfOk-weaker c.decide_on.result _ _ (λ d is. is ∙ ap (unless_validating validate_only start) (ap (after_all refused_create_topics (create_topics_by_racks those c.args.options.now validate_only) start) c.as_slice-topics.ensures ∙ create_topics_after those c.args.options.now validate_only start c.args.request.now.topics (rw c.tip.ensures at c.in_ok-those.ensures))) c.decide_on.ensures.after
