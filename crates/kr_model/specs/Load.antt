-- Load: on standby, a committed image comes in place of batches.
use Rattle.std.specs.Prelude.{ℕ, ℤ, pos, int_lt, unsigned_abs, List, [], is_some, Result, Ok, Err}
use Rattle.kr_calls.specs.declared.events.Reason.{Reason}
use Rattle.kr_defs.specs.Guard.{and_then, refuse◌when◌else◌}
use Rattle.kr_defs.specs.Image.{Image}
use Rattle.kr_snapshot.specs.declared.fault.ImageFault.{ImageFault}
use Rattle.kr_snapshot.specs.Reading.{image_of}
use Rattle.kr_model.specs.Reasons.{already_leading, bad_image, exhausted, older_image}
use Rattle.kr_model.specs.World.{State, is_far}

abbrev pub image_or : Result (ℤ × Image) ImageFault → Result (ℤ × Image) Reason
image_or (Ok image) = Ok image
image_or (Err fault) = Err (bad_image fault)

-- the image is the new start
abbrev pub after_load : State → ℕ → Image → State
after_load s offset image = record s {
  world = record s.world { log = record { offset = offset; image = image; items = [] }; committed = offset; covered = []; batch_ends = [] };
}

abbrev pub take_image : State → ℤ × Image → Result State Reason
take_image s (offset, image) =
    refuse older_image offset (pos s.world.committed) when int_lt offset (pos s.world.committed) else
    refuse exhausted offset when is_far offset else
    Ok (after_load s (unsigned_abs offset) image)

abbrev pub load : State → List ℕ → Result State Reason
load s bytes =
    refuse already_leading s.world.leading when is_some s.world.leading else
    and_then (image_or (image_of bytes)) (take_image s)
