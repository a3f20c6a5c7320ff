-- What a Load makes of an engine: on standby, a committed image.
use Rattle.std.specs.Prelude.{ℤ, int_lt, [], ◌∷◌, is_some, Option, Some, None, Result, Ok, Err, if◌then◌else◌}
use Rattle.kr_calls.specs.declared.events.Reason.{Reason}
use Rattle.kr_calls.specs.declared.events.Entry.TheVariants as entries
use Rattle.kr_defs.specs.Image.{Image}
use Rattle.kr_defs.specs.Records.{records_of}
use Rattle.kr_snapshot.specs.declared.fault.ImageFault.{ImageFault}
use Rattle.kr_model.specs.Engine.{Core}
use Rattle.kr_engine.specs.inner.Changes.{core_with_entries, core_at}
use Rattle.kr_model.specs.Reasons.{already_leading, bad_image, exhausted, older_image}
use Rattle.kr_model.specs.World.{is_far}

abbrev pub decoded_image_reason : Core → ℤ → Option Reason
decoded_image_reason e offset =
    if int_lt offset e.committed then Some (older_image offset e.committed) else
    if is_far offset then Some (exhausted offset) else
    None

abbrev pub read_image_reason : Core → Result (ℤ × Image) ImageFault → Option Reason
read_image_reason e (Ok (offset, image)) = decoded_image_reason e offset
read_image_reason e (Err fault) = Some (bad_image fault)

abbrev pub load_reason : Core → Result (ℤ × Image) ImageFault → Option Reason
load_reason e read = if is_some e.leading then Some (already_leading e.leading) else read_image_reason e read

-- the image of the offset stands in place of all before
abbrev pub core_after_load : Core → ℤ → Image → Core
core_after_load e offset image = core_at (core_with_entries e (entries.Load offset (records_of image) ∷ [])) offset image

abbrev pub core_after_read_image : Core → Result (ℤ × Image) ImageFault → Core
core_after_read_image e (Ok (offset, image)) = core_after_load e offset image
core_after_read_image e (Err fault) = e
