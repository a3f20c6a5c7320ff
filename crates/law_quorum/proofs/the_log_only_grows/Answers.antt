use Rattle.law_quorum.proofs.WholeHistories.{log_only_grows}
use Rattle.law_quorum.proofs.the_log_only_grows.Goals as goal

pub returns : goal.returns
returns c = log_only_grows
