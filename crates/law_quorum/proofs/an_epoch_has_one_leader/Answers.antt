use Rattle.law_quorum.proofs.FedNodes.{one_leader}
use Rattle.law_quorum.proofs.an_epoch_has_one_leader.Goals as goal

pub returns : goal.returns
returns c = one_leader
