-- The numbers of refusals in their frames (this project's own): which reason, and the three numbers that it tells, 0 where it tells fewer.
use Rattle.std.specs.Prelude.{ℕ, ℤ, pos}
use Rattle.kr_defs.specs.Causes as causes
use Rattle.kr_calls.specs.declared.events.BatchRefusal.{BatchRefusal}
use Rattle.kr_calls.specs.declared.events.BatchRefusal.TheVariants as batches
use Rattle.kr_calls.specs.declared.events.ImageRefusal.{ImageRefusal}
use Rattle.kr_calls.specs.declared.events.ImageRefusal.TheVariants as images
use Rattle.kr_calls.specs.declared.events.Reason.{Reason}
use Rattle.kr_calls.specs.declared.events.Reason.TheVariants as reasons

abbrev pub reason_number : Reason → ℕ
reason_number (reasons.AlreadyLeading ours) = 1
reason_number (reasons.NotLeading asked ours) = 2
reason_number (reasons.OldEpoch asked greatest) = 3
reason_number (reasons.BadNext asked end) = 4
reason_number (reasons.BadCommit asked committed tip) = 5
reason_number (reasons.Gap expected found) = 6
reason_number (reasons.BadBatch refusal) = 7
reason_number (reasons.IllFormed place cause) = 8
reason_number (reasons.OlderImage asked committed) = 9
reason_number (reasons.BadImage refusal) = 10
reason_number (reasons.Exhausted place) = 11

abbrev pub batch_number : BatchRefusal → ℕ
batch_number batches.Short = 1
batch_number batches.Trailing = 2
batch_number batches.Magic = 3
batch_number batches.Crc = 4
batch_number batches.Compressed = 5
batch_number batches.BadCount = 6
batch_number (batches.BadOffset at) = 7
batch_number (batches.Record at) = 8

-- the record that a fault of a batch speaks of
abbrev pub record_named : BatchRefusal → ℕ
record_named (batches.BadOffset at) = at
record_named (batches.Record at) = at
record_named other = 0

abbrev pub image_number : ImageRefusal → ℕ
image_number (images.Batch place) = 1
image_number images.NoEnd = 2
image_number (images.Order place) = 3
image_number (images.IllFormed place) = 4

-- the place that a fault of an image speaks of
abbrev pub image_place : ImageRefusal → ℤ
image_place (images.Batch place) = place
image_place images.NoEnd = pos 0
image_place (images.Order place) = place
image_place (images.IllFormed place) = place

abbrev pub first_number : Reason → ℤ
first_number (reasons.AlreadyLeading ours) = ours
first_number (reasons.NotLeading asked ours) = asked
first_number (reasons.OldEpoch asked greatest) = asked
first_number (reasons.BadNext asked end) = asked
first_number (reasons.BadCommit asked committed tip) = asked
first_number (reasons.Gap expected found) = expected
first_number (reasons.BadBatch refusal) = pos (batch_number refusal)
first_number (reasons.IllFormed place cause) = place
first_number (reasons.OlderImage asked committed) = asked
first_number (reasons.BadImage refusal) = pos (image_number refusal)
first_number (reasons.Exhausted place) = place

abbrev pub second_number : Reason → ℤ
second_number (reasons.AlreadyLeading ours) = pos 0
second_number (reasons.NotLeading asked ours) = ours
second_number (reasons.OldEpoch asked greatest) = greatest
second_number (reasons.BadNext asked end) = end
second_number (reasons.BadCommit asked committed tip) = committed
second_number (reasons.Gap expected found) = found
second_number (reasons.BadBatch refusal) = pos (record_named refusal)
second_number (reasons.IllFormed place cause) = pos (causes.number_of cause)
second_number (reasons.OlderImage asked committed) = committed
second_number (reasons.BadImage refusal) = image_place refusal
second_number (reasons.Exhausted place) = pos 0

abbrev pub third_number : Reason → ℤ
third_number (reasons.BadCommit asked committed tip) = tip
third_number other = pos 0
