-- The words in which a row tells what the reader of images answers (this project's own).
use Rattle.std.specs.Prelude.{◌≡◌, ℕ, ℤ, pos, List, [], ◌++◌, Result, Ok, Err, codes}
use Rattle.std.specs.Fmt.{decimal, signed_decimal}
use Rattle.hex.specs.Hex.{encode_lower}
use Rattle.kr_defs.specs.declared.ill.Ill.{Ill}
use Rattle.kr_defs.specs.declared.ill.Ill.TheVariants as ills
use Rattle.kr_defs.specs.Image.{Image}
use Rattle.kr_batch.specs.declared.fault.BatchFault.{BatchFault}
use Rattle.kr_batch.specs.declared.fault.BatchFault.TheVariants as batches
use Rattle.testlib_words.specs.PlainWords.{◌␣◌}
use Rattle.kr_snapshot.specs.declared.fault.BatchCause.{BatchCause}
use Rattle.kr_snapshot.specs.declared.fault.BatchCause.TheVariants as causes
use Rattle.kr_snapshot.specs.declared.fault.ImageFault.{ImageFault}
use Rattle.kr_snapshot.specs.declared.fault.ImageFault.TheVariants as faults
use Rattle.kr_snapshot.specs.ImageText.{image_text}

abbrev pub ill_words : Ill → List ℕ
ill_words ills.BadNumber = codes "BadNumber"
ill_words ills.NoBroker = codes "NoBroker"
ill_words ills.StaleEpoch = codes "StaleEpoch"
ill_words ills.NoTopic = codes "NoTopic"
ill_words ills.TopicExists = codes "TopicExists"
ill_words ills.BadName = codes "BadName"
ill_words ills.NoPartition = codes "NoPartition"
ill_words ills.PartitionExists = codes "PartitionExists"
ill_words ills.BadPartition = codes "BadPartition"
ill_words ills.Limit = codes "Limit"
ill_words ills.BadTransaction = codes "BadTransaction"

abbrev pub batch_words : BatchFault → List ℕ
batch_words batches.Short = codes "Short"
batch_words batches.Trailing = codes "Trailing"
batch_words (batches.Magic found) = codes "Magic"
batch_words (batches.Crc stored counted) = codes "Crc"
batch_words (batches.Compressed kind) = codes "Compressed"
batch_words (batches.BadCount count delta) = codes "BadCount"
batch_words (batches.BadOffset at) = codes "BadOffset"
batch_words (batches.Record at cause) = codes "Record"
batch_words batches.NoMemory = codes "NoMemory"

abbrev pub cause_words : BatchCause → List ℕ
cause_words causes.Head = codes "Head"
cause_words (causes.Refused fault) = batch_words fault
cause_words causes.Base = codes "Base"
cause_words causes.Control = codes "Control"

-- a name, a place, and a byte
abbrev pub place_words : List ℕ → ℤ → ℕ → List ℕ
place_words name place at = (name ++ (codes " " ++ signed_decimal place)) ++ (codes " at " ++ decimal at)

abbrev pub counts_words : ℕ → ℕ → List ℕ
counts_words found expected = decimal found ++ (codes " " ++ decimal expected)

-- the fault's number and name, its place (0 where it has none), the first byte of its batch, and what else it tells; no
-- row tells want of memory
abbrev pub fault_words : ImageFault → ℕ → List ℕ
fault_words (faults.Batch place cause) at = place_words (codes "1 Batch") place at ␣ cause_words cause
fault_words (faults.NoEnd found expected) at = place_words (codes "2 NoEnd") (pos 0) at ␣ counts_words found expected
fault_words (faults.Order place) at = place_words (codes "3 Order") place at
fault_words (faults.IllFormed place cause) at = place_words (codes "4 IllFormed") place at ␣ ill_words cause
fault_words faults.NoMemory at = []

-- the offset, and what is written for the image
abbrev pub image_words : ℤ → Image → List ℕ
image_words offset image = (codes "ok " ++ signed_decimal offset) ␣ encode_lower (image_text offset image)

-- the fault, at whatever byte its batch begins
pub record TellsFault (text : List ℕ) (fault : ImageFault) : Type 0 where
  pub at : ℕ
  pub told : text ≡ fault_words fault at

-- the answer to bytes of which reading gives this
abbrev pub TellsImage : List ℕ → Result (ℤ × Image) ImageFault → Type 0
TellsImage text (Ok x) = text ≡ image_words x.0 x.1
TellsImage text (Err fault) = TellsFault text fault
