use Rattle.kr_defs.proofs.Walks.{maps_hold}
use Rattle.kr_defs.proofs.map_laws.maps_hold.Goals as goal

pub returns : goal.returns
returns g c = maps_hold
