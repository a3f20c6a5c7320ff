use Rattle.law_invariants.proofs.AllStates.{closed_is_committed, closed_rises}
use Rattle.law_invariants.proofs.the_closed_end_never_falls.Goals as goal

pub returns-clause-rises : goal.returns-clause-rises
returns-clause-rises c = closed_rises

pub returns-clause-committed : goal.returns-clause-committed
returns-clause-committed c = closed_is_committed
