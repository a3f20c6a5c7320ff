use Rattle.law_invariants.proofs.AllStates.{committed_rises}
use Rattle.law_invariants.proofs.the_committed_end_never_falls.Goals as goal

pub returns : goal.returns
returns c = committed_rises
