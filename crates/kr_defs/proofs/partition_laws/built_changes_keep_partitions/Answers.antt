use Rattle.kr_defs.proofs.Changes.{kept}
use Rattle.kr_defs.proofs.partition_laws.built_changes_keep_partitions.Goals as goal

pub returns : goal.returns
returns c = kept
