use Rattle.law_safety.proofs.FencingSizes.{fencings_fit}
use Rattle.law_safety.proofs.fencings_fit.Goals as goal

pub returns : goal.returns
returns c = fencings_fit
