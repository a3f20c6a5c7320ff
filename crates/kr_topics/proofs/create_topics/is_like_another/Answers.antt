use Rattle.std.proofs.Common.{◌∙◌, sym}
use Rattle.kr_topics.proofs.Names.{none_agrees}
use Rattle.kr_topics.proofs.create_topics.is_like_another.Goals as goal

pub returns-else-may_agree : goal.returns-else-may_agree
returns-else-may_agree g c =
    sym (none_agrees c.args.seen.now.topics c.args.name.now (sym c.may_agree.ensures ∙ c.if-may_agree.false) c.requires)
