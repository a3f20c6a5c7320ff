use Rattle.kr_defs.proofs.Logs.{cause_named, place_named}
use Rattle.kr_defs.proofs.laws.first_ill_is_named.Goals as goal

pub returns-clause-cause : goal.returns-clause-cause
returns-clause-cause c image place items = cause_named items image place

pub returns-clause-place : goal.returns-clause-place
returns-clause-place c image place items = place_named items image place
