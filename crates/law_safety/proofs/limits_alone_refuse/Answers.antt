use Rattle.law_safety.proofs.RefusedRules.{limits_alone_refuse}
use Rattle.law_safety.proofs.limits_alone_refuse.Goals as goal

pub returns : goal.returns
returns c = limits_alone_refuse
