use Rattle.kr_place.proofs.Spread.{spread}
use Rattle.kr_place.proofs.laws.placements_are_spread.Goals as goal

pub returns : goal.returns
returns c = spread
