use Rattle.law_quorum.proofs.ReadKeys.{missing_is_dropped}
use Rattle.law_quorum.proofs.what_is_missing_was_dropped.Goals as goal

pub returns : goal.returns
returns c = missing_is_dropped
