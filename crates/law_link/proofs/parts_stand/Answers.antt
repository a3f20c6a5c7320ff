use Rattle.law_link.proofs.PartsStand.{parts_stand}
use Rattle.law_link.proofs.parts_stand.Goals as goal

pub returns : goal.returns
returns c = parts_stand
