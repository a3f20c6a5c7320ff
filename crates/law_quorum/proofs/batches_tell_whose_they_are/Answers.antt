use Rattle.law_quorum.proofs.ReadKeys.{batches_tell}
use Rattle.law_quorum.proofs.batches_tell_whose_they_are.Goals as goal

pub returns : goal.returns
returns c = batches_tell
