-- The words in which a row tells what a decoder answers (this project's own).
use Rattle.std.specs.Prelude.{◌≡◌, ℕ, ◌^◌, nat_lt, if◌then◌else◌, List, [], ◌++◌, length, Result, Ok, Err, codes}
use Rattle.std.specs.Fmt.{decimal, signed_decimal}
use Rattle.hex.specs.Hex.{encode_lower}
use Rattle.kr_wire.specs.declared.WireFault.{WireFault}
use Rattle.kr_wire.specs.declared.WireFault.TheVariants as wire
use Rattle.kr_defs.specs.declared.record.Record.{Record}
use Rattle.kr_record.specs.declared.fault.RecordFault.{RecordFault}
use Rattle.kr_record.specs.declared.fault.RecordFault.TheVariants as faults
use Rattle.kr_record.specs.Spelling.{record_value}
use Rattle.kr_batch.specs.declared.Batch.{Batch}
use Rattle.kr_batch.specs.declared.fault.BatchFault.{BatchFault}
use Rattle.kr_batch.specs.declared.fault.BatchFault.TheVariants as batches
use Rattle.kr_batch.specs.declared.fault.Cause.{Cause}
use Rattle.kr_batch.specs.declared.fault.Cause.TheVariants as causes
use Rattle.kr_batch.specs.BatchBytes.{batch_bytes}
use Rattle.law_round_trip.specs.Items.{begins_with_control}

-- a space, and what is behind it
abbrev pub spaced : List ℕ → List ℕ
spaced words = codes " " ++ words

abbrev pub too_long : List ℕ
too_long = codes "too long to be written"

-- ---- records

abbrev pub wire_words : WireFault → List ℕ
wire_words wire.Short = codes "Short"
wire_words wire.Overlong = codes "Overlong"
wire_words wire.TooBig = codes "TooBig"
wire_words wire.BadTag = codes "BadTag"
wire_words wire.BadText = codes "BadText"
wire_words wire.BadNull = codes "BadNull"

-- no row tells want of memory
abbrev pub record_fault_words : RecordFault → List ℕ
record_fault_words (faults.Wire kind) = codes "Wire " ++ wire_words kind
record_fault_words (faults.FrameVersion found) = codes "FrameVersion " ++ decimal found
record_fault_words (faults.UnknownKey key) = codes "UnknownKey " ++ decimal key
record_fault_words (faults.UnknownVersion key version) = codes "UnknownVersion " ++ decimal key ++ spaced (decimal version)
record_fault_words faults.Trailing = codes "Trailing"
record_fault_words faults.NoMemory = []

-- what is written for the record
abbrev pub record_words : Record → List ℕ
record_words r = codes "ok " ++ encode_lower (record_value r)

-- the answer to so many bytes: what is written for the record, where they are fewer than 2^31, or the fault
abbrev pub TellsRecord : List ℕ → ℕ → Result Record RecordFault → Type 0
TellsRecord text len (Ok r) = text ≡ (if nat_lt len (2 ^ 31) then record_words r else too_long)
TellsRecord text len (Err fault) = text ≡ record_fault_words fault

-- ---- batches

abbrev pub cause_words : Cause → List ℕ
cause_words causes.Framing = codes "Framing"
cause_words (causes.Value fault) = record_fault_words fault

-- the fault's number and name, the record that it is at (0 where it is at none), and what else it tells
abbrev pub batch_fault_words : BatchFault → List ℕ
batch_fault_words batches.Short = codes "1 Short 0"
batch_fault_words batches.Trailing = codes "2 Trailing 0"
batch_fault_words (batches.Magic found) = codes "3 Magic 0 " ++ signed_decimal found
batch_fault_words (batches.Crc stored counted) = codes "4 Crc 0 " ++ decimal stored ++ spaced (decimal counted)
batch_fault_words (batches.Compressed kind) = codes "5 Compressed 0 " ++ decimal kind
batch_fault_words (batches.BadCount count delta) = codes "6 BadCount 0 " ++ signed_decimal count ++ spaced (signed_decimal delta)
batch_fault_words (batches.BadOffset at) = codes "7 BadOffset " ++ decimal at
batch_fault_words (batches.Record at cause) = codes "8 Record " ++ decimal at ++ spaced (cause_words cause)
batch_fault_words batches.NoMemory = []

-- base, epoch and time
abbrev pub head_words : Batch → List ℕ
head_words b = (codes "ok " ++ signed_decimal b.base ++ spaced (signed_decimal b.epoch)) ++ spaced (signed_decimal b.time)

-- how many control items
abbrev pub control_words : Batch → List ℕ
control_words b = head_words b ++ (codes " control " ++ decimal (length b.items))

-- how many records
abbrev pub counted_words : List ℕ → ℕ → List ℕ
counted_words head count = head ++ (codes " items " ++ decimal count)

-- and what is written of them
abbrev pub records_words : List ℕ → ℕ → List ℕ → List ℕ
records_words head count written = counted_words head count ++ spaced written

-- what is written for a batch that stood in so many bytes, where they are fewer than 2^27
abbrev pub written_words : ℕ → Batch → List ℕ
written_words len b = if nat_lt len (2 ^ 27) then encode_lower (batch_bytes b) else too_long

-- what the batch has
abbrev pub item_words : ℕ → Batch → List ℕ
item_words len b = if begins_with_control b.items then control_words b else records_words (head_words b) (length b.items) (written_words len b)

-- the answer to so many bytes
abbrev pub TellsBatch : List ℕ → ℕ → Result Batch BatchFault → Type 0
TellsBatch text len (Ok b) = text ≡ item_words len b
TellsBatch text len (Err fault) = text ≡ batch_fault_words fault
