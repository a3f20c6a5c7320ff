-- Where there is room, a broker may be heard of.
use Rattle.std.proofs.Common.{◌≡◌, Bool, true, false, ◌||◌, IsTrue, refl}

or_true : (a b : Bool) → b ≡ true → (a || b) ≡ true
or_true true b h = refl
or_true false b h = h

pub room_is_enough : (a b : Bool) → IsTrue b → IsTrue (a || b)
room_is_enough a b h = or_true a b h

pub ruleset spare = (room_is_enough)
