use Rattle.law_nodes.proofs.AllMoves.{nodes_agree}
use Rattle.law_nodes.proofs.nodes_agree.Goals as goal

pub returns : goal.returns
returns c = nodes_agree
