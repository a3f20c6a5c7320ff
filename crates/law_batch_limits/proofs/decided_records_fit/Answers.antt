use Rattle.law_batch_limits.proofs.FittingRecords.{records_fit, requests_fit}
use Rattle.law_batch_limits.proofs.decided_records_fit.Goals as goal

pub returns-clause-requests : goal.returns-clause-requests
returns-clause-requests c = requests_fit

pub returns-clause-records : goal.returns-clause-records
returns-clause-records c = records_fit
