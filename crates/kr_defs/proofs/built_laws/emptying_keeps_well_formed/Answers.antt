use Rattle.kr_defs.proofs.NewPartitions.{emptying_keeps}
use Rattle.kr_defs.proofs.built_laws.emptying_keeps_well_formed.Goals as goal

pub returns : goal.returns
returns c = emptying_keeps
