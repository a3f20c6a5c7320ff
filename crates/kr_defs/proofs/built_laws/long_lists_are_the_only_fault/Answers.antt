use Rattle.kr_defs.proofs.NewPartitions.{long_lists}
use Rattle.kr_defs.proofs.built_laws.long_lists_are_the_only_fault.Goals as goal

pub returns : goal.returns
returns c = long_lists
