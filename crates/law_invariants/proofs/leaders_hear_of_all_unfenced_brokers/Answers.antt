use Rattle.law_invariants.proofs.AllStates.{hears_while_leading}
use Rattle.law_invariants.proofs.leaders_hear_of_all_unfenced_brokers.Goals as goal

pub returns : goal.returns
returns c = hears_while_leading
