-- Why an event is refused (this project's own), with what each reason tells.
use Rattle.std.specs.Prelude.{ℤ, negsuc, Option, unwrap_or}
use Rattle.kr_calls.specs.declared.events.BatchRefusal.{BatchRefusal}
use Rattle.kr_calls.specs.declared.events.BatchRefusal.TheVariants as batch_refusals
use Rattle.kr_calls.specs.declared.events.ImageRefusal.{ImageRefusal}
use Rattle.kr_calls.specs.declared.events.ImageRefusal.TheVariants as image_refusals
use Rattle.kr_calls.specs.declared.events.Reason.{Reason}
use Rattle.kr_calls.specs.declared.events.Reason.TheVariants as reasons
use Rattle.kr_defs.specs.declared.ill.Ill.{Ill}
use Rattle.kr_batch.specs.declared.fault.BatchFault.{BatchFault}
use Rattle.kr_batch.specs.declared.fault.BatchFault.TheVariants as batches
use Rattle.kr_snapshot.specs.declared.fault.ImageFault.{ImageFault}
use Rattle.kr_snapshot.specs.declared.fault.ImageFault.TheVariants as images

-- the led epoch, -1 on standby
abbrev pub led_epoch : Option ℤ → ℤ
led_epoch leading = unwrap_or leading (negsuc 0)

abbrev pub already_leading : Option ℤ → Reason
already_leading leading = reasons.AlreadyLeading (led_epoch leading)

-- the epoch that the event is of, and the led one
abbrev pub not_leading : ℤ → Option ℤ → Reason
not_leading asked leading = reasons.NotLeading asked (led_epoch leading)

-- the epoch that the event is of, and the greatest led one
abbrev pub old_epoch : ℤ → ℤ → Reason
old_epoch asked greatest = reasons.OldEpoch asked greatest

-- the place at which the leadership is to begin, and the committed end
abbrev pub bad_next : ℤ → ℤ → Reason
bad_next asked end = reasons.BadNext asked end

-- the committed end, and the tip
abbrev pub bad_commit : ℤ → ℤ → ℤ → Reason
bad_commit asked committed tip = reasons.BadCommit asked committed tip

-- the place that a batch has to begin at, and the one at which it does
abbrev pub gap : ℤ → ℤ → Reason
gap expected found = reasons.Gap expected found

-- ---- the faults of batches and images; want of memory refuses no event, so what is named for it is never told

abbrev pub batch_refusal : BatchFault → BatchRefusal
batch_refusal batches.Short = batch_refusals.Short
batch_refusal batches.Trailing = batch_refusals.Trailing
batch_refusal (batches.Magic found) = batch_refusals.Magic
batch_refusal (batches.Crc stored counted) = batch_refusals.Crc
batch_refusal (batches.Compressed kind) = batch_refusals.Compressed
batch_refusal (batches.BadCount count delta) = batch_refusals.BadCount
batch_refusal (batches.BadOffset at) = batch_refusals.BadOffset at
batch_refusal (batches.Record at cause) = batch_refusals.Record at
batch_refusal batches.NoMemory = batch_refusals.Short

abbrev pub bad_batch : BatchFault → Reason
bad_batch fault = reasons.BadBatch (batch_refusal fault)

abbrev pub image_refusal : ImageFault → ImageRefusal
image_refusal (images.Batch place cause) = image_refusals.Batch place
image_refusal (images.NoEnd found expected) = image_refusals.NoEnd
image_refusal (images.Order place) = image_refusals.Order place
image_refusal (images.IllFormed place cause) = image_refusals.IllFormed place
image_refusal images.NoMemory = image_refusals.NoEnd

abbrev pub bad_image : ImageFault → Reason
bad_image fault = reasons.BadImage (image_refusal fault)

-- ----

-- the place of the record, and why it has no meaning
abbrev pub ill_formed : ℤ → Ill → Reason
ill_formed place cause = reasons.IllFormed place cause

-- the offset of the image, and the committed end
abbrev pub older_image : ℤ → ℤ → Reason
older_image asked committed = reasons.OlderImage asked committed

abbrev pub exhausted : ℤ → Reason
exhausted place = reasons.Exhausted place
