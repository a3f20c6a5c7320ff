use Rattle.law_link.proofs.PartsStand.{parts_make_the_whole}
use Rattle.law_link.proofs.parts_make_the_whole.Goals as goal

pub returns : goal.returns
returns c = parts_make_the_whole
