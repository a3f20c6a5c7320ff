-- How far a writer of an image is that gets its records in pieces (this project's own).
use Rattle.std.specs.Prelude.{◌≡◌, ℕ, ℤ, pos, ◌+◌, ◌*◌, ◌<◌, ◌≤◌, ◌^◌, List, ◌++◌, length, All}
use Rattle.kr_defs.specs.declared.limits.TheConstants.{IMAGE_BATCH}
use Rattle.kr_defs.specs.declared.record.Record.{Record}
use Rattle.kr_defs.specs.ImageLaws.{as_items}
use Rattle.kr_batch.specs.BatchBytes.{VALUES_END, IsWritable, batch_bytes, values_size}
use Rattle.kr_snapshot.specs.ImageText.{batch_of_group, text_up_to}

-- how many records the image has, and how many of them were put
pub record Written : Type 0 where
  pub count : ℕ
  pub done : ℕ

-- a number of records that full batches hold
abbrev pub IsFull : ℕ → Type 0
IsFull done = (batches : ℕ) × (done ≡ IMAGE_BATCH * batches)

-- no more were put than there are, and until the last one in full batches
pub record IsUnderway (count done : ℕ) : Type 0 where
  pub number : count < 2 ^ 63
  pub within : done ≤ count
  pub full : done < count → IsFull done

-- these records may be put next: 1,000, or the last 1 to 999, that can be written as one batch
pub record MayPut (w : Written) (records : List Record) : Type 0 where
  pub some : 1 ≤ length records
  pub few : length records ≤ IMAGE_BATCH
  pub within : w.done + length records ≤ w.count
  pub full : length records < IMAGE_BATCH → w.done + length records ≡ w.count
  pub each : All IsWritable (as_items records)
  pub small : values_size (as_items records) < VALUES_END

-- the batch of these records
abbrev pub put_bytes : Written → List Record → List ℕ
put_bytes w records = batch_bytes (batch_of_group w.done (as_items records))

abbrev pub after_put : Written → List Record → Written
after_put w records = record w { done = w.done + length records }

-- behind the text as far as the records that were put, these bytes make the text as far as these records
abbrev pub IsNextText : Written → List Record → List ℕ → Type 0
IsNextText w records bytes = (offset : ℤ) (first : List Record) → length first ≡ w.done
    → text_up_to offset (pos w.count) (first ++ records) ≡ text_up_to offset (pos w.count) first ++ bytes
