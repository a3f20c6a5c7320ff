use Rattle.law_nodes.proofs.NodeEvents.{nodes_take_events}
use Rattle.law_nodes.proofs.nodes_take_events.Goals as goal

pub returns : goal.returns
returns c = nodes_take_events
