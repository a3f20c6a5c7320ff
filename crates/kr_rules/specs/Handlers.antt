-- Where a request is decided. This project's own.
use Rattle.std.specs.Prelude.{◌≡◌, ◌≤ℤ◌, ℤ, pos, Some}
use Rattle.kr_defs.specs.declared.limits.TheConstants.{PLACES_END}
use Rattle.kr_store.specs.Images.{Images, last_kept}

-- the present image is kept under the place that the next record will have
pub record IsAtPlace (images : Images) (place : ℤ) : Type 0 where
  pub natural : pos 0 ≤ℤ place
  pub low : place ≤ℤ PLACES_END
  pub kept : last_kept images ≡ Some (place, images.tip)
