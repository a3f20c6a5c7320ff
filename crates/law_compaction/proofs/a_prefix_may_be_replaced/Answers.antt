use Rattle.law_compaction.proofs.ReplacedPrefixes.{replaced_prefix}
use Rattle.law_compaction.proofs.a_prefix_may_be_replaced.Goals as goal

pub returns : goal.returns
returns c = replaced_prefix
