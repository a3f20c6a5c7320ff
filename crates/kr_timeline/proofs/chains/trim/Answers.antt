use Rattle.std.proofs.Common.{◌∙◌}
use Rattle.std.proofs.lemmas.Bool.{OnTrue_at}
use Rattle.kr_timeline.specs.Chains.{left_of}
use Rattle.kr_timeline.proofs.Trims.{trim_left, trim_gone}
use Rattle.kr_timeline.proofs.chains.trim.Goals as goal

pub returns-then-not-trim_chain : goal.returns-then-not-trim_chain
returns-then-not-trim_chain g c = c.drop_key.ensures ∙ trim_gone _ (left_of c.args.trim c.args.number) c.args.chains.now.entries c.trim_chain.new.chains.entries c.trim_chain.result (λ h. (c.trim_chain.ensures.absent h).0) c.trim_chain.ensures.answer c.trim_chain.ensures.others c.if-not-trim_chain.true

pub returns-else-not-trim_chain : goal.returns-else-not-trim_chain
returns-else-not-trim_chain g c = trim_left _ (left_of c.args.trim c.args.number) c.args.chains.now.entries c.trim_chain.new.chains.entries c.trim_chain.result (λ h. (c.trim_chain.ensures.absent h).1) c.trim_chain.ensures.answer
    (OnTrue_at c.if-not-trim_chain.false c.trim_chain.ensures.left) c.if-not-trim_chain.false
