use Rattle.law_safety.proofs.HearingRequests.{leaders_begin_hearing, requests_keep_hearing, fencings_keep_hearing}
use Rattle.law_safety.proofs.leaders_hear_of_unfenced_brokers.Goals as goal

pub returns-clause-begin : goal.returns-clause-begin
returns-clause-begin c = leaders_begin_hearing

pub returns-clause-requests : goal.returns-clause-requests
returns-clause-requests c = requests_keep_hearing

pub returns-clause-fencings : goal.returns-clause-fencings
returns-clause-fencings c = fencings_keep_hearing
