-- The bytes that are written for a batch: record batches of magic 2 (KIP-98), in this project's profile.
use Rattle.std.specs.Prelude.{ℕ, ℤ, pos, negsuc, ◌+◌, ◌-◌, ◌^◌, ◌<◌, ◌≤◌, ◌≤ℤ◌, FitsSigned, List, [], ◌∷◌, ◌++◌, length}
use Rattle.std.specs.List.{All, sum_by}
use Rattle.std.specs.Int.{w8, w16, w32, w64}
use Rattle.kr_wire.specs.Spelling.{number, signed, varint32, varint64}
use Rattle.kr_defs.specs.declared.limits.TheConstants.{MOST_RECORDS}
use Rattle.kr_defs.specs.declared.record.Item.{Item}
use Rattle.kr_defs.specs.declared.record.Item.TheVariants as items
use Rattle.kr_record.specs.Encodable.{IsEncodable, IsHeld}
use Rattle.kr_record.specs.Spelling.{record_value}
use Rattle.kr_batch.specs.Crc.{crc32c}
use Rattle.kr_batch.specs.declared.Batch.{Batch}

-- the value of a record; a control item has none
abbrev pub item_value : Item → List ℕ
item_value (items.Record value) = record_value value
item_value items.Control = []

-- a record that has a written form
abbrev pub IsWritable : Item → Type 0
IsWritable (items.Record value) = IsEncodable value
IsWritable items.Control = ⊥

-- an item that a program can hold
abbrev pub IsHeldItem : Item → Type 0
IsHeldItem (items.Record value) = IsHeld value
IsHeldItem items.Control = Unit {0}

-- the bytes of all values together
abbrev pub values_size : List Item → ℕ
values_size items = sum_by (λ i. length (item_value i)) items

-- attributes 0, timestamp delta 0, offset delta, no key (-1), the value behind its length, and no headers
unfoldable pub record_body : ℕ → List ℕ → List ℕ
record_body delta value =
    signed w8 (pos 0) ++ varint64 (pos 0) ++ varint32 (pos delta) ++ varint32 (negsuc 0)
    ++ varint32 (pos (length value)) ++ value ++ varint32 (pos 0)

-- what stands before the value of a record: the length of the body, and the body up to it
abbrev pub front_bytes : ℕ → List ℕ → List ℕ
front_bytes delta value =
    varint32 (pos (length (record_body delta value))) ++ signed w8 (pos 0) ++ varint64 (pos 0) ++ varint32 (pos delta) ++ varint32 (negsuc 0)
    ++ varint32 (pos (length value))

-- a record's body behind its length
abbrev pub record_bytes : ℕ → List ℕ → List ℕ
record_bytes delta value = varint32 (pos (length (record_body delta value))) ++ record_body delta value

-- records, numbered from here on
unfoldable pub records_bytes : ℕ → List Item → List ℕ
records_bytes delta [] = []
records_bytes delta (item ∷ items) = record_bytes delta (item_value item) ++ records_bytes (delta + 1) items

-- no producer: its id, epoch and base sequence are -1
unfoldable pub no_producer : List ℕ
no_producer = signed w64 (negsuc 0) ++ signed w16 (negsuc 0) ++ signed w32 (negsuc 0)

-- attributes 0, last offset delta, base and max timestamp, no producer, and the count
unfoldable pub fixed_bytes : ℕ → ℤ → List ℕ
fixed_bytes count time =
    signed w16 (pos 0) ++ number w32 (count - 1) ++ signed w64 time ++ signed w64 time ++ no_producer ++ number w32 count

-- what the CRC is over
unfoldable pub checked_bytes : Batch → List ℕ
checked_bytes batch = fixed_bytes (length batch.items) batch.time ++ records_bytes 0 batch.items

-- base offset, the size of all that follows, and the leader's epoch
unfoldable pub start_bytes : ℤ → ℕ → ℤ → List ℕ
start_bytes base size epoch = signed w64 base ++ number w32 size ++ signed w32 epoch

-- then magic 2 and the CRC
unfoldable pub head_bytes : ℤ → ℕ → ℤ → ℕ → List ℕ
head_bytes base size epoch crc = start_bytes base size epoch ++ signed w8 (pos 2) ++ number w32 crc

-- all of it, by what the CRC is over
abbrev pub whole_bytes : ℤ → ℤ → List ℕ → List ℕ
whole_bytes base epoch checked = head_bytes base (length checked + 9) epoch (crc32c checked) ++ checked

unfoldable pub batch_bytes : Batch → List ℕ
batch_bytes batch = whole_bytes batch.base batch.epoch (checked_bytes batch)

-- The values of a batch take fewer bytes together than this, so that each length in it fits its field of four bytes.
abbrev pub VALUES_END : ℕ
VALUES_END = 2 ^ 30

-- What the records of a batch take together, fewer bytes than this.
abbrev pub RECORDS_END : ℕ
RECORDS_END = 2 ^ 31

-- A batch whose written form stands for it: the base is at least 0, it has 1 to 10,000 records that have a written
-- form, and its numbers and texts are those of their types.
pub record IsRegular (batch : Batch) : Type 0 where
  pub based : pos 0 ≤ℤ batch.base
  pub base : FitsSigned w64 batch.base
  pub epoch : FitsSigned w32 batch.epoch
  pub time : FitsSigned w64 batch.time
  pub some : 1 ≤ length batch.items
  pub few : length batch.items ≤ MOST_RECORDS
  pub each : All IsWritable batch.items
  pub held : All IsHeldItem batch.items
  pub small : values_size batch.items < VALUES_END
