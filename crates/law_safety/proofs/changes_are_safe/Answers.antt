use Rattle.law_safety.proofs.SafeRequests.{requests_are_safe, fencings_are_safe}
use Rattle.law_safety.proofs.changes_are_safe.Goals as goal

pub returns-clause-requests : goal.returns-clause-requests
returns-clause-requests c = requests_are_safe

pub returns-clause-fencings : goal.returns-clause-fencings
returns-clause-fencings c = fencings_are_safe
