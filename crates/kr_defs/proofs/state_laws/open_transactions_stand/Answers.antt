use Rattle.kr_defs.proofs.StateLogs.{open_stands}
use Rattle.kr_defs.proofs.state_laws.open_transactions_stand.Goals as goal

pub returns : goal.returns
returns c = open_stands
