use Rattle.kr_defs.proofs.ReassignmentLists.{both_ways}
use Rattle.kr_defs.proofs.partition_laws.reassignments_lead_both_ways.Goals as goal

pub returns : goal.returns
returns c = both_ways
