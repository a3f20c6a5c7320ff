use Rattle.law_invariants.proofs.AllStates.{none_open_while_leading}
use Rattle.law_invariants.proofs.leaders_decide_outside_transactions.Goals as goal

pub returns : goal.returns
returns c = none_open_while_leading
