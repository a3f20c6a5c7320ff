-- What holds of an image that is seen holds of the one at its place.
use Rattle.std.proofs.Common.{◌≡◌, true, false, subst}
use Rattle.std.specs.Prelude.{Option, Some, None, MatchOption, IfSome}
use Rattle.kr_defs.specs.Image.{Image}

pub shown_there : (place : Option Image) (seen : Image) (P : Image → Type 0) → MatchOption place (false ≡ true) (λ image. seen ≡ image) → P seen → IfSome place P
shown_there None seen P is p = absurd cc
shown_there (Some image) seen P is p = subst P is p
