use Rattle.kr_defs.proofs.NewPartitions.{defaults_sensible}
use Rattle.kr_defs.proofs.built_laws.default_wants_are_sensible.Goals as goal

pub returns : goal.returns
returns c = defaults_sensible
