-- Reading a batch: what the bytes give, or the first fault. Want of memory is free.
use Rattle.std.specs.Prelude.{ℕ, ℤ, zero, suc, pos, int_lt, int_le, ◌+◌, ◌-◌, ◌^◌, Bool, not, ◌&&◌, ◌||◌, List, [], ◌∷◌, length, Option, Some, None, Result, Ok, Err, ◌==◌, nat_lt, nat_le, if◌then◌else◌}
use Rattle.std.specs.Ordering.{int_eq}
use Rattle.std.proofs.Math.ListN.{replicate}
use Rattle.std.specs.Int.{w8, w16, w32, w64, cast_signed}
use Rattle.kr_defs.specs.declared.limits.TheConstants.{MOST_RECORDS, PLACES_END}
use Rattle.kr_defs.specs.declared.record.Record.{Record}
use Rattle.kr_defs.specs.declared.record.Item.{Item}
use Rattle.kr_defs.specs.declared.record.Item.TheVariants as items
use Rattle.kr_wire.specs.declared.WireFault.{WireFault}
use Rattle.kr_wire.specs.declared.WireFault.TheVariants as wire
use Rattle.kr_wire.specs.Reading.{◌>>=◌, refuse◌when◌else◌, Read, piece_at, number_at, signed_at, varint32_at, varint64_at}
use Rattle.kr_record.specs.declared.fault.RecordFault.{RecordFault}
use Rattle.kr_record.specs.Reading.{record_of}
use Rattle.kr_batch.specs.Crc.{crc32c}
use Rattle.kr_batch.specs.Grammar.{natural, compression, is_control}
use Rattle.kr_batch.specs.declared.Batch.{Batch}
use Rattle.kr_batch.specs.declared.fault.BatchFault.{BatchFault}
use Rattle.kr_batch.specs.declared.fault.BatchFault.TheVariants as faults
use Rattle.kr_batch.specs.declared.fault.Cause.TheVariants.{Framing, Value}
use Rattle.kr_batch.specs.declared.heading.Heading.{Heading}

-- ---- a record's frame; which fault it has doesn't matter

-- bytes behind their length
unfoldable pub sized_at : List ℕ → Read (List ℕ)
sized_at bytes = do
  size ← varint32_at bytes
  refuse wire.Short when int_lt size.0 (pos 0) else piece_at (natural size.0) size.1

-- a key that is skipped: none where its length is negative
unfoldable pub key_at : List ℕ → Read (List ℕ)
key_at bytes = do
  size ← varint32_at bytes
  piece_at (natural size.0) size.1

-- attributes, timestamp delta, offset delta, key, value, and no headers: the offset delta and the value
unfoldable pub body_at : List ℕ → Read (ℤ × List ℕ)
body_at bytes = do
  attributes ← piece_at 1 bytes
  timestamp ← varint64_at attributes.1
  delta ← varint32_at timestamp.1
  key ← key_at delta.1
  value ← sized_at key.1
  headers ← varint32_at value.1
  refuse wire.Short when not (int_eq headers.0 (pos 0)) else Ok ((delta.0, value.0), headers.1)

-- all of a body
unfoldable pub batch_body : List ℕ → Result (ℤ × List ℕ) WireFault
batch_body bytes = do
  body ← body_at bytes
  refuse wire.Short when nat_lt 0 (length body.1) else Ok body.0

-- a body behind its length
unfoldable pub frame_at : List ℕ → Read (ℤ × List ℕ)
frame_at bytes = do
  body ← sized_at bytes
  frame ← batch_body body.0
  Ok (frame, body.1)

-- ---- records

abbrev pub framing_fault : {X : Type 0} → ℕ → Result X WireFault → Result X BatchFault
framing_fault at (Ok x) = Ok x
framing_fault at (Err fault) = Err (faults.Record at Framing)

abbrev pub caused : {X : Type 0} → ℕ → Result X RecordFault → Result X BatchFault
caused at (Ok x) = Ok x
caused at (Err cause) = Err (faults.Record at (Value cause))

-- The record at this number: its frame, that nothing is behind the last one, its offset delta, its value.
unfoldable pub entry_at : ℕ → Bool → List ℕ → Result (Record × List ℕ) BatchFault
entry_at at last bytes = do
  frame ← framing_fault at (frame_at bytes)
  refuse (faults.Record at Framing) when last && nat_lt 0 (length frame.1) else
      refuse (faults.BadOffset at) when not (int_eq frame.0.0 (pos at)) else do
        value ← caused at (record_of frame.0.1)
        Ok (value, frame.1)

-- so many records, numbered from here on
unfoldable pub records_from : ℕ → ℕ → List ℕ → Result (List Item) BatchFault
records_from at zero bytes = Ok []
records_from at (suc count) bytes = do
  entry ← entry_at at (count == 0) bytes
  others ← records_from (at + 1) count entry.1
  Ok (items.Record entry.0 ∷ others)

-- ---- the fields before the records

abbrev pub short : {X : Type 0} → Result X WireFault → Result X BatchFault
short (Ok x) = Ok x
short (Err fault) = Err faults.Short

-- base offset, and the size of all that follows
unfoldable pub start_at : List ℕ → Result ((ℤ × ℕ) × List ℕ) BatchFault
start_at bytes = do
  base ← short (signed_at w64 bytes)
  size ← short (number_at w32 base.1)
  Ok ((base.0, size.0), size.1)

-- the leader's epoch, magic 2, and the CRC
unfoldable pub sum_at : List ℕ → Result ((ℤ × ℕ) × List ℕ) BatchFault
sum_at bytes = do
  epoch ← short (signed_at w32 bytes)
  magic ← short (signed_at w8 epoch.1)
  refuse (faults.Magic magic.0) when not (int_eq magic.0 (pos 2)) else do
    crc ← short (number_at w32 magic.1)
    Ok ((epoch.0, crc.0), crc.1)

abbrev pub is_count : ℕ → ℕ → Bool
is_count count delta = nat_le 1 count && nat_le count MOST_RECORDS && delta == count - 1

-- attributes, last offset delta, base and max timestamp, producer, and the count: whether it is a control batch, the
-- base timestamp and the count
unfoldable pub fixed_at : List ℕ → Result ((Bool × ℤ × ℕ) × List ℕ) BatchFault
fixed_at bytes = do
  attributes ← short (number_at w16 bytes)
  refuse (faults.Compressed (compression attributes.0)) when nat_lt 0 (compression attributes.0) else do
    delta ← short (number_at w32 attributes.1)
    time ← short (signed_at w64 delta.1)
    skipped ← short (piece_at 22 time.1)
    count ← short (number_at w32 skipped.1)
    refuse (faults.BadCount (cast_signed w32 count.0) (cast_signed w32 delta.0)) when not (is_count count.0 delta.0) else
        Ok ((is_control attributes.0, time.0, count.0), count.1)

-- ---- a batch

unfoldable pub items_of : Bool → ℕ → List ℕ → Result (List Item) BatchFault
items_of control count bytes = if control then Ok (replicate count items.Control) else records_from 0 count bytes

-- The size is that of the bytes behind it, and has room for the fields before the records.
abbrev pub is_short : ℕ → ℕ → Bool
is_short size rest = nat_lt size 49 || nat_le (2 ^ 31) size || nat_lt rest size

-- base, and all that follows the size
unfoldable pub base_and_rest : List ℕ → Result (ℤ × List ℕ) BatchFault
base_and_rest bytes = do
  start ← start_at bytes
  refuse faults.Short when is_short start.0.1 (length start.1) else
      refuse faults.Trailing when nat_lt start.0.1 (length start.1) else Ok (start.0.0, start.1)

-- epoch, and what the CRC is over
unfoldable pub sum_of : List ℕ → Result (ℤ × List ℕ) BatchFault
sum_of bytes = do
  sum ← sum_at bytes
  refuse (faults.Crc sum.0.1 (crc32c sum.1)) when not (sum.0.1 == crc32c sum.1) else Ok (sum.0.0, sum.1)

unfoldable pub batch_of : List ℕ → Result Batch BatchFault
batch_of bytes = do
  place ← base_and_rest bytes
  sum ← sum_of place.1
  fixed ← fixed_at sum.1
  refuse (faults.BadOffset 0) when int_lt place.0 (pos 0) else do
    items ← items_of fixed.0.0 fixed.0.2 fixed.1
    Ok (record { base = place.0; epoch = sum.0; time = fixed.0.1; items = items })

-- ---- a batch of which the records aren't read

-- a place of a log (this project's bound)
abbrev pub is_base : ℤ → Bool
is_base base = int_le (pos 0) base && int_le base PLACES_END

-- where the batch stands, who leads, and how many records there are
unfoldable pub head_of : List ℕ → Result Heading BatchFault
head_of bytes = do
  place ← base_and_rest bytes
  sum ← sum_of place.1
  fixed ← fixed_at sum.1
  refuse (faults.BadOffset 0) when not (is_base place.0) else Ok (record { base = place.0; epoch = sum.0; count = pos fixed.0.2 })

-- what a batch that is read whole says of itself
abbrev pub head_in : Batch → Option Heading
head_in batch = if is_base batch.base then Some (record { base = batch.base; epoch = batch.epoch; count = pos (length batch.items) }) else None
