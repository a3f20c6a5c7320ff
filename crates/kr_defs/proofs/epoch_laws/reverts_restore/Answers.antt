use Rattle.kr_defs.proofs.KeptEpochs.{reverts_restore}
use Rattle.kr_defs.proofs.epoch_laws.reverts_restore.Goals as goal

pub returns : goal.returns
returns g c = reverts_restore
