use Rattle.kr_snapshot.proofs.ReaderSteps.{faults_stay, piece_more}
use Rattle.kr_snapshot.proofs.laws.read_in_pieces.Goals as goal

pub returns-clause-on : goal.returns-clause-on
returns-clause-on c = piece_more

pub returns-clause-faults : goal.returns-clause-faults
returns-clause-faults c = faults_stay
