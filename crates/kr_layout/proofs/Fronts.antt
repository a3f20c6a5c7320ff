-- What a 0 stands for: no tagged field.
use Rattle.std.proofs.Common.{◌≡◌, ℕ, List, ◌∷◌, Ok, refl}
use Rattle.kr_wire.specs.Reading.{none_known, uvarint_at, fields_at, tags_at}

pub no_field : (bytes : List ℕ) → tags_at none_known tt (0 ∷ bytes) ≡ Ok (tt, bytes)
unfolding tags_at uvarint_at fields_at
no_field bytes = refl
