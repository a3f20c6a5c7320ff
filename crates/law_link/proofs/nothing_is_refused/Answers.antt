use Rattle.law_link.proofs.Welcome.{nothing_is_refused}
use Rattle.law_link.proofs.nothing_is_refused.Goals as goal

pub returns : goal.returns
returns c = nothing_is_refused
