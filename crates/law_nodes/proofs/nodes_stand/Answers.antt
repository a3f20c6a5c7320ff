use Rattle.law_nodes.proofs.MoveHistories.{nodes_stand}
use Rattle.law_nodes.proofs.nodes_stand.Goals as goal

pub returns : goal.returns
returns c = nodes_stand
