use Rattle.kr_queue.proofs.RuleSteps.{pushes}
use Rattle.kr_queue.proofs.queue.Queue.push.Goals as goal

pub push_as-requires-clause-rule : goal.push_as-requires-clause-rule
push_as-requires-clause-rule g c = λ n. pushes n _ _ _ c.requires.job
