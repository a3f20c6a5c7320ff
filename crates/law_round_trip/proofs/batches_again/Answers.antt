use Rattle.law_round_trip.proofs.ReadAgain.{read_held, read_regular}
use Rattle.law_round_trip.proofs.batches_again.Goals as goal

pub returns-clause-held : goal.returns-clause-held
returns-clause-held c b bytes is known = read_held b bytes is known

pub returns-clause-regular : goal.returns-clause-regular
returns-clause-regular c b bytes is known few some = read_regular b bytes is known few some
