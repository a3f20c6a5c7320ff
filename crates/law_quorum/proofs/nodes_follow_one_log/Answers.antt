use Rattle.law_quorum.proofs.FedNodes.{nodes_follow}
use Rattle.law_quorum.proofs.nodes_follow_one_log.Goals as goal

pub returns : goal.returns
returns c = nodes_follow
