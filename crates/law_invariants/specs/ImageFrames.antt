-- The size of an image as it is written (this project's own).
use Rattle.std.specs.Prelude.{ℕ, ◌+◌, ◌<◌, ◌^◌, ℤ, pos, negsuc, int_le, ◌&&◌, Bool, All, length, IsTrue}
use Rattle.kr_defs.specs.declared.record.ConfigKey.{ConfigKey}
use Rattle.kr_defs.specs.Image.{Image, IsValid}
use Rattle.kr_snapshot.specs.ImageText.{image_text}

-- the type of a setting's resource is a signed byte
abbrev pub is_type : ℤ → Bool
is_type kind = int_le (negsuc 127) kind && int_le kind (pos 127)

-- The text of a valid image, with the kind of its frame before it, has fewer than 2^32 bytes: a frame's size field says how many.
abbrev pub ImagesFitFrames : Type 0
ImagesFitFrames =
    (offset : ℤ) (image : Image) → IsValid image → All (λ e. IsTrue (is_type e.0.kind)) image.configs
    → length (image_text offset image) + 1 < 2 ^ 32
