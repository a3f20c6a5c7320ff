-- What is written stands for the batch.
use Rattle.std.proofs.Common.{◌≡◌, ℕ, ℤ, pos, negsuc, zero, suc, ◌+◌, ◌-◌, ◌/◌, ◌%◌, ◌^◌, ◌<◌, ◌≤◌, Bool, true, false, eqb, List, [], ◌∷◌, ◌++◌, length, append_assoc, length-append, Ok, refl, sym, subst, arith}
use Rattle.std.specs.Prelude.{FitsSigned, ◌≤ℤ◌, bit_xor, if◌then◌else◌}
use Rattle.std.specs.List.{All, AllByRecursion, fold}
use Rattle.std.specs.Int.{w8, w16, w32, w64}
use Rattle.std.proofs.lemmas.Nat.{xor_lt}
use Rattle.std.proofs.lemmas.List.{append-nil}
use Rattle.std.proofs.lemmas.List.Elements.{recursion_from_All}
use Rattle.std.proofs.lemmas.List.Sums.{sum_by-cons}
use Rattle.kr_defs.specs.declared.record.Record.{Record}
use Rattle.kr_defs.specs.declared.record.Item.{Item}
use Rattle.kr_defs.specs.declared.record.Item.TheVariants as items
use Rattle.kr_wire.specs.Grammar.{◌⌢◌, Exactly, IsNumber, IsVarint32}
use Rattle.kr_wire.specs.Spelling.{number, signed, varint32, varint64}
use Rattle.kr_wire.proofs.ReadingLaws.{IsBytes, joined}
use Rattle.kr_wire.proofs.WrittenForms.{varint32_spelled, varint64_spelled, number_spelled, signed_spelled}
use Rattle.kr_record.specs.Grammar.{IsRecord}
use Rattle.kr_record.specs.Spelling.{record_value}
use Rattle.kr_record.proofs.RecordForms.{stands}
use Rattle.kr_batch.specs.Crc.{polynomial, bit_step, bit_steps, byte_step, crc32c}
use Rattle.kr_batch.specs.declared.Batch.{Batch}
use Rattle.kr_batch.specs.Grammar.{IsSized, IsKey, IsBody, IsEntry, AreEntries, IsFixed, IsSum, IsBatch}
use Rattle.kr_batch.specs.BatchBytes.{VALUES_END, IsWritable, IsHeldItem, IsRegular, item_value, values_size, record_body, record_bytes, records_bytes, no_producer, fixed_bytes, checked_bytes, start_bytes, head_bytes, batch_bytes}
use Rattle.kr_batch.specs.Reading.{batch_of}
use Rattle.kr_batch.proofs.Batches.{of_complete}
use Rattle.kr_batch.proofs.Sizes.{body_short, checked_length}
use Rattle.kr_batch.proofs.Bytes.{checked_fits, batch_fits}

-- ---- a record

small : (n : ℕ) → n < 2 ^ 31 → FitsSigned w32 (pos n)
small n lt = record { sfits = lt }

size_spelled : (n : ℕ) → n < 2 ^ 31 → IsVarint32 (pos n) (varint32 (pos n))
size_spelled n lt = varint32_spelled (pos n) (small n lt)

sized_spelled : (piece : List ℕ) → length piece < 2 ^ 31 → IsSized piece (varint32 (pos (length piece)) ++ piece)
sized_spelled piece lt = joined _ _ (size_spelled (length piece) lt) refl

no_key_spelled : IsKey [] (varint32 (negsuc 0))
no_key_spelled = record {
  size = negsuc 0;
  spelled = record { left = varint32 (negsuc 0); right = []; is = sym (append-nil (varint32 (negsuc 0))); first = varint32_spelled (negsuc 0) (record { sfits = omega arith }); second = (refl, refl) };
}

one_byte : length (signed w8 (pos 0)) ≡ 1
unfolding signed
one_byte = refl

body_is : (delta : ℕ) (value : List ℕ)
    → record_body delta value ≡ signed w8 (pos 0) ++ (varint64 (pos 0) ++ (varint32 (pos delta) ++ (varint32 (negsuc 0) ++ ((varint32 (pos (length value)) ++ value) ++ varint32 (pos 0)))))
unfolding record_body
body_is delta value = simp append_assoc

body_spelled : (delta : ℕ) (value : List ℕ) → delta < 2 ^ 31 → length value < 2 ^ 31 → IsBody (pos delta, value) (record_body delta value)
body_spelled delta value few short =
    subst (IsBody (pos delta, value)) (sym (body_is delta value))
    (joined _ _ (record { value = signed w8 (pos 0); spelled = (one_byte, refl) })
    (joined _ _ (record { value = pos 0; spelled = varint64_spelled (pos 0) (record { sfits = omega arith }) })
    (joined _ _ (size_spelled delta few)
    (joined _ _ (record { value = []; spelled = no_key_spelled })
    (joined _ _ (sized_spelled value short) (size_spelled 0 (omega arith)))))))

entry_spelled : (at : ℕ) (r : Record) → at < 10000 → IsRecord r (record_value r) → length (record_value r) < VALUES_END → IsEntry at r (record_bytes at (record_value r))
entry_spelled at r few is short = record {
  value = record_value r;
  is = is;
  spelled = record {
    body = record_body at (record_value r);
    whole = body_spelled at (record_value r) (omega arith) (omega arith);
    spelled = sized_spelled (record_body at (record_value r)) (body_short at (record_value r) short);
  };
}

entries_spelled : (all : List Item) (at : ℕ) → at + length all ≤ 10000 → AllByRecursion IsWritable all → AllByRecursion IsHeldItem all → values_size all < VALUES_END
    → AreEntries at all (records_bytes at all)
unfolding records_bytes
entries_spelled [] at few each held short = refl
entries_spelled (items.Record r ∷ others) at few each held short =
    let e = sum_by-cons (λ x. length (item_value x)) (items.Record r) others in
    joined _ _ (entry_spelled at r (omega arith) (stands r each.0 held.0) (omega (arith, e))) (entries_spelled others (at + 1) (omega arith) each.1 held.1 (omega (arith, e)))
entries_spelled (items.Control ∷ others) at few each held short = absurd each.0

-- ---- the fields before the records

attributes_spelled : IsNumber w16 0 (signed w16 (pos 0))
unfolding signed
attributes_spelled = record { long = refl; spelled = refl }

skipped_long : (time : ℤ) → length (signed w64 time ++ no_producer) ≡ 22
unfolding signed no_producer
skipped_long time = refl

fixed_is : (count : ℕ) (time : ℤ)
    → fixed_bytes count time ≡ signed w16 (pos 0) ++ (number w32 (count - 1) ++ (signed w64 time ++ ((signed w64 time ++ no_producer) ++ number w32 count)))
unfolding fixed_bytes
fixed_is count time = simp append_assoc

fixed_spelled : (count : ℕ) (time : ℤ) → 1 ≤ count → count ≤ 10000 → FitsSigned w64 time → IsFixed (false, time, count) (fixed_bytes count time)
fixed_spelled count time some few fits =
    subst (IsFixed (false, time, count)) (sym (fixed_is count time))
    (joined _ _ (record { attributes = 0; plain = refl; is = refl; spelled = attributes_spelled })
    (joined _ _ (number_spelled w32 (count - 1) (omega arith) (omega arith))
    (joined _ _ (signed_spelled w64 time (omega arith) fits)
    (joined _ _ (record { value = signed w64 time ++ no_producer; spelled = (skipped_long time, refl) })
    (record { some = some; few = few; spelled = number_spelled w32 count (omega arith) (omega arith) })))))

-- ---- the CRC has 32 bits

step_small : (c : ℕ) → c < 2 ^ 32 → bit_step c < 2 ^ 32
step_small c lt = chosen (eqb (c % 2) 1) (xor_lt 32 (c / 2) polynomial (omega arith) (omega arith)) (omega arith)
  where
    chosen : (b : Bool) → bit_xor (c / 2) polynomial < 2 ^ 32 → c / 2 < 2 ^ 32 → (if b then bit_xor (c / 2) polynomial else c / 2) < 2 ^ 32
    chosen true p q = p
    chosen false p q = q

steps_small : (n c : ℕ) → c < 2 ^ 32 → bit_steps n c < 2 ^ 32
steps_small zero c lt = lt
steps_small (suc n) c lt = steps_small n (bit_step c) (step_small c lt)

byte_small : (c byte : ℕ) → c < 2 ^ 32 → byte < 256 → byte_step c byte < 2 ^ 32
unfolding byte_step
byte_small c byte lt fits = steps_small 8 (bit_xor c byte) (xor_lt 32 c byte lt (omega arith))

sum_small : (bytes : List ℕ) (c : ℕ) → c < 2 ^ 32 → IsBytes bytes → fold byte_step c bytes < 2 ^ 32
sum_small [] c lt fits = lt
sum_small (b ∷ bytes) c lt fits = sum_small bytes (byte_step c b) (byte_small c b lt (fits 0)) (λ i. fits (suc i))

pub crc_small : (bytes : List ℕ) → IsBytes bytes → crc32c bytes < 2 ^ 32
unfolding crc32c
crc_small bytes fits = xor_lt 32 (fold byte_step 0xFFFFFFFF bytes) 0xFFFFFFFF (sum_small bytes 0xFFFFFFFF (omega arith) fits) (omega arith)

-- ---- a batch

checked_spelled : (batch : Batch) → FitsSigned w64 batch.time → 1 ≤ length batch.items → length batch.items ≤ 10000
    → (IsFixed (false, batch.time, length batch.items) ⌢ Exactly (records_bytes 0 batch.items)) (checked_bytes batch)
unfolding checked_bytes
checked_spelled batch fits some few = joined _ _ (fixed_spelled (length batch.items) batch.time some few fits) refl

-- the epoch, the magic and a CRC
abbrev sum_bytes : ℤ → ℕ → List ℕ
sum_bytes epoch crc = signed w32 epoch ++ (signed w8 (pos 2) ++ number w32 crc)

sum_long : (epoch : ℤ) (crc : ℕ) → length (sum_bytes epoch crc) ≡ 9
unfolding signed number
sum_long epoch crc = refl

sum_spelled : (epoch : ℤ) (crc : ℕ) → FitsSigned w32 epoch → crc < 2 ^ 32 → IsSum (epoch, crc) (sum_bytes epoch crc)
sum_spelled epoch crc fits few =
    joined _ _ (signed_spelled w32 epoch (omega arith) fits)
    (joined _ _ (signed_spelled w8 (pos 2) (omega arith) (record { sfits = omega arith })) (number_spelled w32 crc (omega arith) few))

batch_is : (batch : Batch)
    → batch_bytes batch ≡ (signed w64 batch.base ++ number w32 (length (checked_bytes batch) + 9)) ++ (sum_bytes batch.epoch (crc32c (checked_bytes batch)) ++ checked_bytes batch)
unfolding batch_bytes head_bytes start_bytes
batch_is batch = simp append_assoc

pub batch_spelled : (batch : Batch) → pos 0 ≤ℤ batch.base → FitsSigned w64 batch.base → FitsSigned w32 batch.epoch → FitsSigned w64 batch.time
    → 1 ≤ length batch.items → length batch.items ≤ 10000 → All IsWritable batch.items → All IsHeldItem batch.items → values_size batch.items < VALUES_END
    → IsBatch batch (batch_bytes batch)
batch_spelled batch based base epoch time some few each held short =
    let checked : List ℕ = checked_bytes batch in
    let sum : List ℕ = sum_bytes batch.epoch (crc32c checked) in
    let size : length checked + 9 ≡ length (sum ++ checked) = (let a = length-append sum checked in let b = sum_long batch.epoch (crc32c checked) in omega (arith, a, b)) in
    let fits : length checked + 9 < 2 ^ 31 = checked_length batch few short in
    let crc : crc32c checked < 2 ^ 32 = crc_small checked (checked_fits batch few each held short).each in
    record {
      behind = sum ++ checked;
      checked = checked;
      records = records_bytes 0 batch.items;
      control = false;
      based = based;
      fits = subst (λ (n : ℕ). n < 2 ^ 31) size fits;
      start = record {
        left = signed w64 batch.base ++ number w32 (length checked + 9);
        right = sum ++ checked;
        is = batch_is batch;
        first = joined _ _ (signed_spelled w64 batch.base (omega arith) base)
            (subst (λ (n : ℕ). IsNumber w32 n (number w32 (length checked + 9))) size (number_spelled w32 (length checked + 9) (omega arith) (omega (arith, fits))));
        second = refl;
      };
      sum = joined sum checked (sum_spelled batch.epoch (crc32c checked) epoch crc) refl;
      fixed = checked_spelled batch time some few;
      items = entries_spelled batch.items 0 (omega arith) (recursion_from_All IsWritable batch.items each) (recursion_from_All IsHeldItem batch.items held) short;
    }

pub regular_spelled : (batch : Batch) → IsRegular batch → IsBatch batch (batch_bytes batch)
regular_spelled batch is = batch_spelled batch is.based is.base is.epoch is.time is.some is.few is.each is.held is.small

pub regular_again : (batch : Batch) → IsRegular batch → batch_of (batch_bytes batch) ≡ Ok batch
regular_again batch is = of_complete (batch_bytes batch) batch (regular_spelled batch is)

pub regular_bytes : (batch : Batch) → IsRegular batch → IsBytes (batch_bytes batch)
regular_bytes batch is = (batch_fits batch is.few is.each is.held is.small).each

pub ruleset regular = (regular_spelled, regular_again, regular_bytes)
