use Rattle.law_replies.proofs.ToldApart.{refusals_are_told_apart}
use Rattle.law_replies.proofs.refusals_are_told_apart.Goals as goal

pub returns : goal.returns
returns c = refusals_are_told_apart
