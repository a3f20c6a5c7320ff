-- What is written of a batch is bytes.
use Rattle.std.proofs.Common.{ℕ, ℤ, pos, negsuc, ◌+◌, ◌-◌, ◌^◌, ◌<◌, ◌≤◌, List, [], ◌∷◌, length, arith, lit<}
use Rattle.std.specs.List.{All, AllByRecursion}
use Rattle.std.specs.Int.{w8, w16, w32, w64}
use Rattle.std.proofs.lemmas.List.Elements.{recursion_from_All}
use Rattle.std.proofs.lemmas.List.Sums.{sum_by-cons}
use Rattle.kr_defs.specs.declared.record.Item.{Item}
use Rattle.kr_defs.specs.declared.record.Item.TheVariants as items
use Rattle.kr_wire.specs.Spelling.{varint32}
use Rattle.kr_wire.proofs.WrittenBytes.{OfBytes, ◌and◌, none_fits, number_fits, signed_fits, varint32_fits, varint64_fits}
use Rattle.kr_record.proofs.RecordForms.{record_fits as value_fits}
use Rattle.kr_batch.specs.Crc.{crc32c}
use Rattle.kr_batch.specs.declared.Batch.{Batch}
use Rattle.kr_batch.specs.BatchBytes.{VALUES_END, IsWritable, IsHeldItem, item_value, values_size, record_body, record_bytes, records_bytes, no_producer, fixed_bytes, checked_bytes, start_bytes, head_bytes, batch_bytes}
use Rattle.kr_batch.proofs.Sizes.{body_short}

-- ---- records

size_fits : (n : ℕ) → n < 2 ^ 31 → OfBytes (varint32 (pos n))
size_fits n lt = varint32_fits (pos n) (record { sfits = lt })

body_fits : (delta : ℕ) (value : List ℕ) → delta < 2 ^ 31 → length value < 2 ^ 31 → OfBytes value → OfBytes (record_body delta value)
unfolding record_body
body_fits delta value few short fit =
    signed_fits w8 (pos 0)
    and varint64_fits (pos 0) (record { sfits = lit< tt })
    and size_fits delta few
    and varint32_fits (negsuc 0) (record { sfits = lit< tt })
    and size_fits (length value) short
    and fit
    and size_fits 0 (lit< tt)

record_fits : (delta : ℕ) (value : List ℕ) → delta < 10000 → length value < VALUES_END → OfBytes value → OfBytes (record_bytes delta value)
record_fits delta value few short fit =
    size_fits (length (record_body delta value)) (body_short delta value short) and body_fits delta value (omega arith) (omega arith) fit

records_fit : (all : List Item) (at : ℕ) → at + length all ≤ 10000 → AllByRecursion IsWritable all → AllByRecursion IsHeldItem all → values_size all < VALUES_END
    → OfBytes (records_bytes at all)
unfolding records_bytes
records_fit [] at few each held short = none_fits
records_fit (items.Record r ∷ others) at few each held short =
    let e = sum_by-cons (λ x. length (item_value x)) (items.Record r) others in
    record_fits at _ (omega arith) (omega (arith, e)) (value_fits r each.0 held.0) and records_fit others (at + 1) (omega arith) each.1 held.1 (omega (arith, e))
records_fit (items.Control ∷ others) at few each held short = absurd each.0

-- ---- a batch

fixed_fits : (count : ℕ) (time : ℤ) → OfBytes (fixed_bytes count time)
unfolding fixed_bytes no_producer
fixed_fits count time =
    signed_fits w16 (pos 0)
    and number_fits w32 (count - 1)
    and signed_fits w64 time
    and signed_fits w64 time
    and (signed_fits w64 (negsuc 0) and signed_fits w16 (negsuc 0) and signed_fits w32 (negsuc 0))
    and number_fits w32 count

head_fits : (base : ℤ) (size : ℕ) (epoch : ℤ) (crc : ℕ) → OfBytes (head_bytes base size epoch crc)
unfolding head_bytes start_bytes
head_fits base size epoch crc = (signed_fits w64 base and number_fits w32 size and signed_fits w32 epoch) and signed_fits w8 (pos 2) and number_fits w32 crc

pub checked_fits : (batch : Batch) → length batch.items ≤ 10000 → All IsWritable batch.items → All IsHeldItem batch.items → values_size batch.items < VALUES_END → OfBytes (checked_bytes batch)
unfolding checked_bytes
checked_fits batch few each held short =
    fixed_fits (length batch.items) batch.time
    and records_fit batch.items 0 (omega arith) (recursion_from_All IsWritable batch.items each) (recursion_from_All IsHeldItem batch.items held) short

pub batch_fits : (batch : Batch) → length batch.items ≤ 10000 → All IsWritable batch.items → All IsHeldItem batch.items → values_size batch.items < VALUES_END → OfBytes (batch_bytes batch)
unfolding batch_bytes
batch_fits batch few each held short =
    head_fits batch.base (length (checked_bytes batch) + 9) batch.epoch (crc32c (checked_bytes batch)) and checked_fits batch few each held short
