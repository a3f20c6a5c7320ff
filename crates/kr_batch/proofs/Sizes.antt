-- How many bytes are written.
use Rattle.std.proofs.Common.{◌≡◌, ℕ, ℤ, pos, negsuc, ◌+◌, ◌*◌, ◌/◌, ◌^◌, ◌<◌, ◌≤◌, List, [], ◌∷◌, ◌++◌, length, refl, sym, ap, arith, length-append}
use Rattle.std.specs.Int.{w8}
use Rattle.std.proofs.lemmas.List.Sums.{sum_by-cons}
use Rattle.kr_wire.specs.Spelling.{groups, varint32, varint64, number, signed}
use Rattle.kr_wire.proofs.Lengths.{one_group, more_groups, groups_few}
use Rattle.kr_defs.specs.declared.record.Item.{Item}
use Rattle.kr_batch.specs.declared.Batch.{Batch}
use Rattle.kr_batch.specs.BatchBytes.{VALUES_END, record_body, record_bytes, records_bytes, no_producer, fixed_bytes, checked_bytes, start_bytes, head_bytes, item_value, values_size}

pub one : (n : ℕ) → n < 64 → 1 ≡ length (varint32 (pos n))
unfolding varint32
one n lt = sym (one_group 3 (2 * n) (omega arith))

pub two : (n : ℕ) → 64 ≤ n → n < 8192 → 2 ≡ length (varint32 (pos n))
unfolding varint32
two n le lt =
    let a = more_groups 3 (2 * n) (omega arith) in
    let b = one_group 2 (2 * n / 128) (omega arith) in
    omega (arith, a, b)

pub three : (n : ℕ) → 8192 ≤ n → n < 1048576 → 3 ≡ length (varint32 (pos n))
unfolding varint32
three n le lt =
    let a = more_groups 3 (2 * n) (omega arith) in
    let b = more_groups 2 (2 * n / 128) (omega arith) in
    let d = one_group 1 (2 * n / 128 / 128) (omega arith) in
    omega (arith, a, b, d)

pub four : (n : ℕ) → 1048576 ≤ n → n < 134217728 → 4 ≡ length (varint32 (pos n))
unfolding varint32
four n le lt =
    let a = more_groups 3 (2 * n) (omega arith) in
    let b = more_groups 2 (2 * n / 128) (omega arith) in
    let d = more_groups 1 (2 * n / 128 / 128) (omega arith) in
    let e = one_group 0 (2 * n / 128 / 128 / 128) (omega arith) in
    omega (arith, a, b, d, e)

pub five : (n : ℕ) → 134217728 ≤ n → 5 ≡ length (varint32 (pos n))
unfolding varint32
five n le =
    let a = more_groups 3 (2 * n) (omega arith) in
    let b = more_groups 2 (2 * n / 128) (omega arith) in
    let d = more_groups 1 (2 * n / 128 / 128) (omega arith) in
    let e = more_groups 0 (2 * n / 128 / 128 / 128) (omega arith) in
    let f : length (groups 0 (2 * n / 128 / 128 / 128 / 128)) ≡ 1 = refl in
    omega (arith, a, b, d, e, f)

pub varint_few : (n : ℕ) → length (varint32 (pos n)) ≤ 5
unfolding varint32
varint_few n = groups_few 4 (2 * n)

body_length_from : (delta : ℕ) (value : List ℕ)
    → length (record_body delta value) ≡ length (signed w8 (pos 0)) + length (varint64 (pos 0)) + length (varint32 (pos delta)) + length (varint32 (negsuc 0)) + length (varint32 (pos (length value))) + length value + length (varint32 (pos 0))
unfolding record_body
body_length_from delta value = simp length-append

fixed_parts : length (signed w8 (pos 0)) + length (varint64 (pos 0)) + length (varint32 (negsuc 0)) + length (varint32 (pos 0)) ≡ 4
unfolding signed varint32 varint64
fixed_parts = refl

pub body_length : (delta : ℕ) (value : List ℕ)
    → length (varint32 (pos delta)) + length (varint32 (pos (length value))) + length value + 4 ≡ length (record_body delta value)
body_length delta value =
    let a = body_length_from delta value in
    let b = fixed_parts in
    omega (arith, a, b)

pub body_short : (delta : ℕ) (value : List ℕ) → length value < VALUES_END → length (record_body delta value) < 2 ^ 31
body_short delta value short =
    let a = body_length delta value in
    let b = varint_few delta in
    let d = varint_few (length value) in
    omega (arith, a, b, d)

pub record_length : (delta : ℕ) (value : List ℕ) → length (record_bytes delta value) ≤ 19 + length value
record_length delta value =
    let a = body_length delta value in
    let b = varint_few delta in
    let d = varint_few (length value) in
    let e = varint_few (length (record_body delta value)) in
    let h = length-append (varint32 (pos (length (record_body delta value)))) (record_body delta value) in
    omega (arith, a, b, d, e, h)

pub records_length : (delta : ℕ) (items : List Item) → length (records_bytes delta items) ≤ 19 * length items + values_size items
unfolding records_bytes
records_length delta [] = omega arith
records_length delta (i ∷ items) =
    let a = record_length delta (item_value i) in
    let b = records_length (delta + 1) items in
    let d = length-append (record_bytes delta (item_value i)) (records_bytes (delta + 1) items) in
    let e = sum_by-cons (λ x. length (item_value x)) i items in
    omega (arith, a, b, d, e)

pub fixed_length : (count : ℕ) (time : ℤ) → length (fixed_bytes count time) ≡ 40
unfolding fixed_bytes no_producer signed number
fixed_length count time = refl

pub behind_fixed : (count : ℕ) (time : ℤ) (first second third records : List ℕ) → second ≡ first ++ fixed_bytes count time → third ≡ second ++ records
    → length third ≡ length first + 40 + length records
behind_fixed count time first second third records fixed all =
    let a = ap (λ (l : List ℕ). length l) fixed in
    let b = ap (λ (l : List ℕ). length l) all in
    omega (arith, a, b, fixed_length count time, length-append first (fixed_bytes count time), length-append second records)

pub head_length : (base : ℤ) (size : ℕ) (epoch : ℤ) (crc : ℕ) → length (head_bytes base size epoch crc) ≡ 21
unfolding head_bytes start_bytes signed number
head_length base size epoch crc = refl

pub checked_length : (batch : Batch) → length batch.items ≤ 10000 → values_size batch.items < VALUES_END → length (checked_bytes batch) + 9 < 2 ^ 31
unfolding checked_bytes
checked_length batch few small =
    let a = fixed_length (length batch.items) batch.time in
    let b = records_length 0 batch.items in
    let d = length-append (fixed_bytes (length batch.items) batch.time) (records_bytes 0 batch.items) in
    omega (arith, a, b, d)
