use Rattle.kr_defs.proofs.NewPartitions.{new_well_formed}
use Rattle.kr_defs.proofs.built_laws.new_partitions_are_well_formed.Goals as goal

pub returns : goal.returns
returns c = new_well_formed
