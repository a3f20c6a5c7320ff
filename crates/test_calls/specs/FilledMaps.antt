-- What a timeline holds whose going back and forgetting is counted.
use Rattle.std.specs.Prelude.{◌≡◌, ◌≤◌, ℕ, ℤ, pos, [], ◌∷◌}
use Rattle.kr_defs.specs.KeptMaps.{Kept, KeptMaps}

-- a thousand keys were given values between two kept epochs, and nothing has changed since
pub record HoldsThousand (maps : KeptMaps ℕ ℤ) : Type 0 where
  pub empty : Kept ℕ ℤ
  pub full : Kept ℕ ℤ
  pub kept : maps.kept ≡ empty ∷ full ∷ []
  pub first : empty.epoch ≡ pos 0
  pub second : full.epoch ≡ pos 1
  pub unmade : empty.made ≡ 0
  pub made : full.made ≤ 1000
  pub still : maps.made ≡ 0
