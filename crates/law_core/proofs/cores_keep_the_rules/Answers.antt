use Rattle.law_core.proofs.CoreRuns.{cores_keep_the_rules}
use Rattle.law_core.proofs.cores_keep_the_rules.Goals as goal

pub returns : goal.returns
returns c = cores_keep_the_rules
