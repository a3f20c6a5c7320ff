use Rattle.kr_defs.proofs.Elections.{clean}
use Rattle.kr_defs.proofs.partition_laws.clean_elections_keep_records.Goals as goal

pub returns : goal.returns
returns c = clean
