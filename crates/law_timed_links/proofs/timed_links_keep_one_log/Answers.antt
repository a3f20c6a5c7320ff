use Rattle.law_timed_links.proofs.RunsOfCores.{timed_links_keep_one_log}
use Rattle.law_timed_links.proofs.timed_links_keep_one_log.Goals as goal

pub returns : goal.returns
returns c = timed_links_keep_one_log
