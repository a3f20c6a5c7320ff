use Rattle.law_quorum.proofs.ReadKeys.{read_batches_stand}
use Rattle.law_quorum.proofs.read_batches_stand.Goals as goal

pub returns : goal.returns
returns c = read_batches_stand
