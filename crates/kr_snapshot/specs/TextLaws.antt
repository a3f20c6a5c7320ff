-- What the laws of images ask of an image that is to be written (this project's own).
use Rattle.std.specs.Prelude.{ℤ, pos, ◌≤ℤ◌, ◌<◌, ◌^◌, length, All, FitsSigned}
use Rattle.std.specs.Int.{w64}
use Rattle.kr_defs.specs.Image.{Image, IsValid}
use Rattle.kr_defs.specs.Records.{records_of}
use Rattle.kr_record.specs.Encodable.{IsHeld}

-- a claim on each valid image whose numbers and texts are those of their types, at an offset and with a count that fit
abbrev pub WhereItFits : ℤ → Image → Type 0 → Type 0
WhereItFits offset image Claim =
    IsValid image → pos 0 ≤ℤ offset → FitsSigned w64 offset → length (records_of image) < 2 ^ 63
    → All IsHeld (records_of image) → Claim
