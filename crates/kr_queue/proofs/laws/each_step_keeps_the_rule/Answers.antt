use Rattle.kr_queue.proofs.QueueLaws.{begins, gives, pops, pushes}
use Rattle.kr_queue.proofs.laws.each_step_keeps_the_rule.Goals as goal

pub returns : goal.returns
returns c = record { begin = begins; push = pushes; pop = pops; pass = gives }
