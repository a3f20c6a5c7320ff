use Rattle.law_link.proofs.Committed.{committed_batches_stand}
use Rattle.law_link.proofs.committed_batches_stand.Goals as goal

pub returns : goal.returns
returns c = committed_batches_stand
