use Rattle.kr_defs.proofs.KeptEpochs.{reverts_above}
use Rattle.kr_defs.proofs.epoch_laws.reverts_leave_the_others.Goals as goal

pub returns : goal.returns
returns g c = reverts_above
