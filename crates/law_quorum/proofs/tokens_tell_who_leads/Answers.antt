use Rattle.law_quorum.proofs.ReadKeys.{tokens_tell}
use Rattle.law_quorum.proofs.tokens_tell_who_leads.Goals as goal

pub returns : goal.returns
returns c = tokens_tell
