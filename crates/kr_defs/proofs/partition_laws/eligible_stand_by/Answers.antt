use Rattle.kr_defs.proofs.EligibleLists.{stand_by}
use Rattle.kr_defs.proofs.partition_laws.eligible_stand_by.Goals as goal

pub returns : goal.returns
returns c = stand_by
