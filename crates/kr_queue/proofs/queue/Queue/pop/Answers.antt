use Rattle.kr_queue.proofs.RuleSteps.{pops, learns}
use Rattle.kr_queue.proofs.queue.Queue.pop.Goals as goal

pub pop_as-requires-clause-rule : goal.pop_as-requires-clause-rule
pop_as-requires-clause-rule g c = (pops _ _ c.requires.role, learns _ _)
