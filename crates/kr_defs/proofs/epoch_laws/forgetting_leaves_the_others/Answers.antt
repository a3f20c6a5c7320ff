use Rattle.kr_defs.proofs.KeptEpochs.{forgets_below}
use Rattle.kr_defs.proofs.epoch_laws.forgetting_leaves_the_others.Goals as goal

pub returns : goal.returns
returns g c = forgets_below
