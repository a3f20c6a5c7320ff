use Rattle.law_nodes.proofs.ReadBatches.{appends_read_back}
use Rattle.law_nodes.proofs.appends_read_back.Goals as goal

pub returns : goal.returns
returns c = appends_read_back
