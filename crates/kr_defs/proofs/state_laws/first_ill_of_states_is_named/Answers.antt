use Rattle.kr_defs.proofs.StateLogs.{cause_named_at, place_named_at}
use Rattle.kr_defs.proofs.state_laws.first_ill_of_states_is_named.Goals as goal

pub returns-clause-cause : goal.returns-clause-cause
returns-clause-cause c state place items = cause_named_at items state place

pub returns-clause-place : goal.returns-clause-place
returns-clause-place c state place items = place_named_at items state place
