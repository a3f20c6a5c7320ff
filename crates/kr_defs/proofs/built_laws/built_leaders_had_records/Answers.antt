use Rattle.kr_defs.proofs.BuiltLeaders.{leaders_had_records}
use Rattle.kr_defs.proofs.built_laws.built_leaders_had_records.Goals as goal

pub returns : goal.returns
returns c = leaders_had_records
