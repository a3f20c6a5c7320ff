use Rattle.law_one_log.proofs.Turns.{daemons_say_one_log}
use Rattle.law_one_log.proofs.daemons_say_one_log.Goals as goal

pub returns : goal.returns
returns c = daemons_say_one_log
