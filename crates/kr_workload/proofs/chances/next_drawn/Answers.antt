use Rattle.kr_workload.specs.Chances.{next_drawn}
use Rattle.kr_workload.proofs.Remainders.{remainder_first}
use Rattle.kr_workload.proofs.chances.next_drawn.Goals as goal

pub returns : goal.returns
unfolding next_drawn
returns c = remainder_first _ _ _
