use Rattle.law_quorum.proofs.WholeHistories.{over_is_over}
use Rattle.law_quorum.proofs.what_is_over_is_over.Goals as goal

pub returns : goal.returns
returns c = over_is_over
