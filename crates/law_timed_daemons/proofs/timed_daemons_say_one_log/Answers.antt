use Rattle.law_timed_daemons.proofs.Turns.{timed_daemons_say_one_log}
use Rattle.law_timed_daemons.proofs.timed_daemons_say_one_log.Goals as goal

pub returns : goal.returns
returns c = timed_daemons_say_one_log
