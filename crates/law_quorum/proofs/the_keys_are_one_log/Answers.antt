use Rattle.law_quorum.proofs.WholeHistories.{one_log}
use Rattle.law_quorum.proofs.the_keys_are_one_log.Goals as goal

pub returns : goal.returns
returns c = one_log
