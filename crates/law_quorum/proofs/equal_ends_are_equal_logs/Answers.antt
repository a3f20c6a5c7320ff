use Rattle.law_quorum.proofs.FedNodes.{equal_ends}
use Rattle.law_quorum.proofs.equal_ends_are_equal_logs.Goals as goal

pub returns : goal.returns
returns c = equal_ends
