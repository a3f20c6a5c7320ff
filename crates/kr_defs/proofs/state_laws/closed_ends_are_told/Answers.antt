use Rattle.kr_defs.proofs.StateLogs.{closed_end_between, closed_end_stays, closed_end_told, open_told}
use Rattle.kr_defs.proofs.state_laws.closed_ends_are_told.Goals as goal

pub returns-clause-place : goal.returns-clause-place
returns-clause-place c = open_told

pub returns-clause-told : goal.returns-clause-told
returns-clause-told c = closed_end_told

pub returns-clause-between : goal.returns-clause-between
returns-clause-between c = closed_end_between

pub returns-clause-stays : goal.returns-clause-stays
returns-clause-stays c = closed_end_stays
