-- Batches of changes and of settings have a written form.
use Rattle.std.proofs.Common.{◌≡◌, ℕ, zero, suc, ℤ, pos, ◌*◌, ◌^◌, ◌<◌, ◌≤◌, List, [], ◌∷◌, length, FitsSigned, w32, w64, refl, rules, arith, length-append, codes, IsUtf8}
use Rattle.std.specs.List.{All}
use Rattle.std.proofs.lemmas.List.Elements.{All-nil, All-push}
use Rattle.std.proofs.lemmas.List.Sums.{sum_by-append}
use Rattle.std.proofs.lemmas.Str.{IsUtf8-from_is_utf8}
use Rattle.std.specs.Str.{is_utf8, chars}
use lib.Utf8.{encode}
use Rattle.kr_wire.specs.Spelling.{uvarint, signed, id}
use Rattle.kr_defs.specs.declared.record.Record.{Record}
use Rattle.kr_defs.specs.declared.record.Item.{Item}
use Rattle.kr_defs.specs.declared.record.Item.TheVariants as items
use Rattle.kr_record.specs.Records.{chosen}
use Rattle.kr_record.specs.Encodable.{IsEncodable, IsHeld}
use Rattle.kr_record.specs.Spelling.{record_value, framed}
use Rattle.kr_batch.specs.declared.Batch.{Batch}
use Rattle.kr_batch.specs.BatchBytes.{item_value, values_size, IsHeldItem, IsRegular, IsWritable}
use Rattle.test_bench.specs.Batches.{batch_of_kind}
use Rattle.test_bench.specs.declared.batches.Kind.{Kind}
use Rattle.test_bench.specs.declared.batches.Kind.TheVariants as kinds
use Rattle.test_bench.specs.Changes.{numbered_change}
use Rattle.test_bench.specs.NumberedRecords.{numbered}
use Rattle.test_bench.specs.Settings.{setting_at}

-- ---- records that differ by a number

module _ (at : ℤ → Record) (size : ℕ) where
  values_length : ((i : ℤ) → length (record_value (at i)) ≡ size) → (n : ℕ) → values_size (numbered at n) ≡ size * n
  unfolding numbered
  values_length each zero = omega arith
  values_length each (suc n) =
      let a = sum_by-append (λ x. length (item_value x)) (numbered at n) (items.Record (at (pos n)) ∷ []) in
      let b = each (pos n) in
      let so_far = values_length each n in
      omega (arith, a, b, so_far)

  numbered_length : (n : ℕ) → length (numbered at n) ≡ n
  unfolding numbered
  numbered_length zero = refl
  numbered_length (suc n) =
      let a = length-append (numbered at n) (items.Record (at (pos n)) ∷ []) in
      let so_far = numbered_length n in
      omega (arith, a, so_far)

  all_writable : ((i : ℤ) → IsEncodable (at i)) → (n : ℕ) → All IsWritable (numbered at n)
  unfolding numbered
  all_writable each zero = All-nil IsWritable
  all_writable each (suc n) = All-push IsWritable (numbered at n) (items.Record (at (pos n))) (all_writable each n) (each (pos n))

  all_held : ((i : ℕ) → i < 10000 → IsHeld (at (pos i))) → (n : ℕ) → n ≤ 10000 → All IsHeldItem (numbered at n)
  unfolding numbered
  all_held each zero le = All-nil IsHeldItem
  all_held each (suc n) le =
      All-push IsHeldItem (numbered at n) (items.Record (at (pos n))) (all_held each n (omega (arith, le))) (each n (omega (arith, le)))

-- ---- changes

change_length : (index : ℤ) → length (record_value (numbered_change index)) ≡ 41
unfolding record_value chosen framed uvarint signed id
change_length index = refl

change_writable : (index : ℤ) → IsEncodable (numbered_change index)
unfolding chosen
change_writable index = search rules

change_held : (n : ℕ) → n < 10000 → IsHeld (numbered_change (pos n))
unfolding chosen
change_held n lt = search (rules, lt)

-- ---- settings

setting_length : (index : ℤ) → length (record_value (setting_at index)) ≡ 35
unfolding record_value chosen framed uvarint signed id
setting_length index = refl

setting_writable : (index : ℤ) → IsEncodable (setting_at index)
unfolding chosen
setting_writable index = search (rules, arith)

orders : IsUtf8 (codes "orders")
unfolding is_utf8 chars encode
orders = IsUtf8-from_is_utf8 (codes "orders") refl

retention : IsUtf8 (codes "retention.ms")
unfolding is_utf8 chars encode
retention = IsUtf8-from_is_utf8 (codes "retention.ms") refl

week : IsUtf8 (codes "604800000")
unfolding is_utf8 chars encode
week = IsUtf8-from_is_utf8 (codes "604800000") refl

setting_held : (n : ℕ) → n < 10000 → IsHeld (setting_at (pos n))
unfolding chosen
setting_held n lt = (search rules, (orders, (retention, (week, tt))))

-- ---- both

changes_regular : IsRegular (batch_of_kind kinds.Changes)
changes_regular =
    let size = values_length numbered_change 41 change_length 10000 in
    let count = numbered_length numbered_change 41 10000 in
    record {
      based = search rules;
      base = search rules;
      epoch = search rules;
      time = search rules;
      some = omega (arith, count);
      few = omega (arith, count);
      each = all_writable numbered_change 41 change_writable 10000;
      held = all_held numbered_change 41 change_held 10000 (omega arith);
      small = omega (arith, size);
    }

settings_regular : IsRegular (batch_of_kind kinds.Settings)
settings_regular =
    let size = values_length setting_at 35 setting_length 10000 in
    let count = numbered_length setting_at 35 10000 in
    record {
      based = search rules;
      base = search rules;
      epoch = search rules;
      time = search rules;
      some = omega (arith, count);
      few = omega (arith, count);
      each = all_writable setting_at 35 setting_writable 10000;
      held = all_held setting_at 35 setting_held 10000 (omega arith);
      small = omega (arith, size);
    }

regular_of : (kind : Kind) → IsRegular (batch_of_kind kind)
regular_of kinds.Changes = changes_regular
regular_of kinds.Settings = settings_regular

pub regular : (batch : Batch) (kind : Kind) → batch ≡ batch_of_kind kind → IsRegular batch
regular batch kind is = rw is (regular_of kind)
