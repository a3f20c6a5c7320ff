use Rattle.law_invariants.proofs.AllStates.{images_are_valid}
use Rattle.law_invariants.proofs.KeptPlaces.{kept_are_valid}
use Rattle.law_invariants.proofs.images_are_valid.Goals as goal

pub returns-clause-seen : goal.returns-clause-seen
returns-clause-seen c = images_are_valid

pub returns-clause-kept : goal.returns-clause-kept
returns-clause-kept c = kept_are_valid
