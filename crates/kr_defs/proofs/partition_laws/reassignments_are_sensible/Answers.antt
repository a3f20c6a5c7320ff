use Rattle.kr_defs.proofs.ReassignmentLists.{sensible}
use Rattle.kr_defs.proofs.partition_laws.reassignments_are_sensible.Goals as goal

pub returns : goal.returns
returns c = sensible
