use Rattle.law_core.proofs.CoreRuns.{deeds_are_handed}
use Rattle.law_core.proofs.deeds_are_handed.Goals as goal

pub returns : goal.returns
returns c = deeds_are_handed
