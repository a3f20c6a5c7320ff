use Rattle.kr_calls.proofs.KeptPlaces.{pins_stay}
use Rattle.kr_calls.proofs.laws.kept_places_stay.Goals as goal

-- a pin at the end stays until an image in place of all, or its seat's unpin, comes
pub returns-clause-stay : goal.returns-clause-stay
returns-clause-stay c = pins_stay
