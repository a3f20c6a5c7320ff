use Rattle.kr_defs.proofs.BuiltLeaders.{end_in_sync}
use Rattle.kr_defs.proofs.built_laws.reassignments_end_in_sync.Goals as goal

pub returns : goal.returns
returns c = end_in_sync
