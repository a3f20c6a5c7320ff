use Rattle.kr_calls.proofs.TakingOutSteps.{taking_out_stands, fencing_stands, unregistering_stands}
use Rattle.kr_calls.proofs.laws.taking_out_is_never_refused.Goals as goal

pub returns-clause-taking_out : goal.returns-clause-taking_out
returns-clause-taking_out c = taking_out_stands

pub returns-clause-fencing : goal.returns-clause-fencing
returns-clause-fencing c = fencing_stands

pub returns-clause-unregistering : goal.returns-clause-unregistering
returns-clause-unregistering c = unregistering_stands
