use Rattle.kr_defs.proofs.StateLogs.{ended, aborted}
use Rattle.kr_defs.proofs.state_laws.transactions_hold_or_not.Goals as goal

pub returns-clause-ended : goal.returns-clause-ended
returns-clause-ended c state place name inner after none is = ended state place name inner after none is

pub returns-clause-aborted : goal.returns-clause-aborted
returns-clause-aborted c state place name reason inner after none is = aborted state place name inner after none is reason
