use Rattle.law_invariants.proofs.AllStates.{contacts_are_once, contacts_rise}
use Rattle.law_invariants.proofs.contacts_stand_in_order.Goals as goal

pub returns-clause-rise : goal.returns-clause-rise
returns-clause-rise c = contacts_rise

pub returns-clause-once : goal.returns-clause-once
returns-clause-once c = contacts_are_once
