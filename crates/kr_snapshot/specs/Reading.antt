-- Reading an image: what the bytes give, or the first fault. Want of memory is free. This project's own.
use Rattle.std.specs.Prelude.{ℕ, ℤ, pos, int_lt, unsigned_abs, ◌+◌, ◌^◌, ◌||◌, Bool, true, false, not, List, [], ◌∷◌, ◌++◌, length, Option, Some, None, Result, Ok, Err, nat_lt, nat_le, if◌then◌else◌}
use Rattle.std.specs.Int.{w64}
use Rattle.std.specs.List.{list_any}
use Rattle.std.specs.Ordering.{int_eq}
use Rattle.kr_defs.specs.declared.ill.Ill.{Ill}
use Rattle.kr_defs.specs.declared.record.Record.{Record}
use Rattle.kr_defs.specs.declared.record.Item.{Item}
use Rattle.kr_defs.specs.declared.record.Item.TheVariants as items
use Rattle.kr_defs.specs.Apply.{apply}
use Rattle.kr_defs.specs.Image.{Image, empty}
use Rattle.kr_defs.specs.ImageOrder.{ReadSoFar, nothing_seen, seen_with, is_later}
use Rattle.kr_wire.specs.declared.WireFault.{WireFault}
use Rattle.kr_wire.specs.declared.WireFault.TheVariants as wire
use Rattle.kr_wire.specs.Reading.{◌>>=◌, refuse◌when◌else◌, Read, signed_at}
use Rattle.kr_batch.specs.declared.Batch.{Batch}
use Rattle.kr_batch.specs.declared.fault.BatchFault.{BatchFault}
use Rattle.kr_batch.specs.declared.fault.BatchFault.TheVariants as refusals
use Rattle.kr_batch.specs.Reading.{start_at, batch_of}
use Rattle.kr_snapshot.specs.declared.fault.ImageFault.{ImageFault}
use Rattle.kr_snapshot.specs.declared.fault.ImageFault.TheVariants as faults
use Rattle.kr_snapshot.specs.declared.fault.BatchCause.{BatchCause}
use Rattle.kr_snapshot.specs.declared.fault.BatchCause.TheVariants as causes

-- the fault of the batch behind so many records
abbrev pub batch_fault_behind : ℕ → BatchCause → ImageFault
batch_fault_behind found cause = faults.Batch (pos found) cause

-- ---- the head: the offset and the count

unfoldable pub numbers_at : List ℕ → Read (ℤ × ℕ)
numbers_at bytes = do
  offset ← signed_at w64 bytes
  count ← signed_at w64 offset.1
  refuse wire.Short when int_lt offset.0 (pos 0) || int_lt count.0 (pos 0) else Ok ((offset.0, unsigned_abs count.0), count.1)

abbrev pub headed : {X : Type 0} → Result X WireFault → Result X ImageFault
headed (Ok x) = Ok x
headed (Err fault) = Err (batch_fault_behind 0 causes.Head)

-- ---- records

-- how many records there are to be, and what was read of them so far
pub record Progress : Type 0 where
  pub expected : ℕ
  pub found : ℕ
  pub seen : ReadSoFar
  pub image : Image

abbrev pub nothing_found : ℕ → Progress
nothing_found expected = record { expected = expected; found = 0; seen = nothing_seen; image = empty }

abbrev pub with_meaning : Progress → Record → Result Image Ill → Result Progress ImageFault
with_meaning p r (Ok image) = Ok (record { expected = p.expected; found = p.found + 1; seen = seen_with p.seen r; image = image })
with_meaning p r (Err cause) = Err (faults.IllFormed (pos p.found) cause)

-- a record: its place in the order, and then its meaning
unfoldable pub record_read : Progress → Record → Result Progress ImageFault
record_read p r =
    refuse (faults.Order (pos p.found)) when not (is_later p.seen r) else
    with_meaning p r (apply p.image (items.Record r))

abbrev pub item_read : Progress → Item → Result Progress ImageFault
item_read p (items.Record r) = record_read p r
item_read p items.Control = Err (batch_fault_behind p.found causes.Control)

abbrev pub items_read : Progress → List Item → Result Progress ImageFault
items_read p [] = Ok p
items_read p (item ∷ others) = item_read p item >>= λ next. items_read next others

-- ---- batches

abbrev pub is_control : Item → Bool
is_control items.Control = true
is_control (items.Record r) = false

-- a batch: its base, whether it is one of the quorum's own, its count, and then its records
unfoldable pub batch_read : Progress → Batch → Result Progress ImageFault
batch_read p batch =
    refuse (batch_fault_behind p.found causes.Base) when not (int_eq batch.base (pos p.found)) else
    refuse (batch_fault_behind p.found causes.Control) when list_any is_control batch.items else
    refuse (faults.NoEnd (p.found + length batch.items) p.expected) when nat_lt p.expected (p.found + length batch.items) else
    items_read p batch.items

abbrev pub batch_refused : {X : Type 0} → ℕ → Result X BatchFault → Result X ImageFault
batch_refused found (Ok x) = Ok x
batch_refused found (Err fault) = Err (batch_fault_behind found (causes.Refused fault))

-- all bytes of a batch
unfoldable pub whole_read : Progress → List ℕ → Result Progress ImageFault
whole_read p bytes = do
  batch ← batch_refused p.found (batch_of bytes)
  batch_read p batch

-- ---- the bytes as they come, in any pieces

-- what was taken so far: the offset and the records, once the head is there; and the bytes of the head or of the batch
-- that isn't whole yet
pub record Taken : Type 0 where
  pub body : Option (ℤ × Progress)
  pub held : List ℕ

abbrev pub nothing_taken : Taken
nothing_taken = record { body = None; held = [] }

abbrev pub waits : Option (ℤ × Progress) → List ℕ → Result Taken ImageFault
waits body held = Ok (record { body = body; held = held })

-- the head is judged once its two numbers are there
unfoldable pub head_taken : List ℕ → Result Taken ImageFault
head_taken held = if nat_lt (length held) 16 then waits None held else do
  head ← headed (numbers_at held)
  waits (Some (head.0.0, nothing_found head.0.1)) []

-- base and size, and as many bytes more as the size says
abbrev pub extent : ℕ → ℕ
extent size = size + 12

abbrev pub is_no_size : ℕ → Bool
is_no_size size = nat_lt size 49 || nat_le (2 ^ 31) size

-- the size of the batch at the front
unfoldable pub size_at : List ℕ → Result ℕ BatchFault
size_at bytes = do
  start ← start_at bytes
  refuse refusals.Short when is_no_size start.0.1 else Ok start.0.1

-- a batch: its size is judged once base and size are there, and all of it once it is whole
unfoldable pub batch_taken : ℤ × Progress → List ℕ → Result Taken ImageFault
batch_taken b held = if nat_lt (length held) 12 then waits (Some b) held else do
  size ← batch_refused b.1.found (size_at held)
  if nat_lt (length held) (extent size) then waits (Some b) held else do
    next ← whole_read b.1 held
    waits (Some (b.0, next)) []

abbrev pub judged : Option (ℤ × Progress) → List ℕ → Result Taken ImageFault
judged None held = head_taken held
judged (Some b) held = batch_taken b held

-- one byte after the other
abbrev pub goes_on : Taken → List ℕ → Result Taken ImageFault
goes_on t [] = Ok t
goes_on t (byte ∷ bytes) = judged t.body (t.held ++ byte ∷ []) >>= λ next. goes_on next bytes

-- all bytes that came so far, or the first fault that they show, whatever follows them
abbrev pub so_far : List ℕ → Result Taken ImageFault
so_far bytes = goes_on nothing_taken bytes

-- the same once a piece more has come; a fault stays
abbrev pub with_piece : Result Taken ImageFault → List ℕ → Result Taken ImageFault
with_piece (Ok taken) piece = goes_on taken piece
with_piece (Err fault) piece = Err fault

-- the bytes end
abbrev pub image_at_end : Progress → Result Image ImageFault
image_at_end p = refuse (faults.NoEnd p.found p.expected) when nat_lt p.found p.expected else Ok p.image

abbrev pub ends : Option (ℤ × Progress) → List ℕ → Result (ℤ × Image) ImageFault
ends None held = Err (batch_fault_behind 0 causes.Head)
ends (Some b) [] = image_at_end b.1 >>= λ image. Ok (b.0, image)
ends (Some b) (byte ∷ held) = Err (batch_fault_behind b.1.found (causes.Refused refusals.Short))

-- all bytes: the offset and the image
unfoldable pub image_of : List ℕ → Result (ℤ × Image) ImageFault
image_of bytes = so_far bytes >>= λ t. ends t.body t.held
