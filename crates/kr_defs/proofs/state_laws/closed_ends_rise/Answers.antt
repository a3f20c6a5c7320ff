use Rattle.kr_defs.proofs.StateLogs.{closed_end_rises}
use Rattle.kr_defs.proofs.state_laws.closed_ends_rise.Goals as goal

pub returns : goal.returns
returns c = closed_end_rises
