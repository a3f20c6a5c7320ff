use Rattle.kr_defs.proofs.StateLogs.{plain_all, plain_log}
use Rattle.kr_defs.proofs.state_laws.plain_logs_are_closed.Goals as goal

pub returns-clause-items : goal.returns-clause-items
returns-clause-items c state place items after is = plain_all items state place after is

pub returns-clause-log : goal.returns-clause-log
returns-clause-log c = plain_log
