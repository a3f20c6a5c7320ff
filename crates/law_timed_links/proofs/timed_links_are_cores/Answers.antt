use Rattle.law_timed_links.proofs.RunsOfCores.{timed_links_are_cores}
use Rattle.law_timed_links.proofs.timed_links_are_cores.Goals as goal

pub returns : goal.returns
returns c = timed_links_are_cores
