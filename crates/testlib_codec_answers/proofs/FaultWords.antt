-- The words of a fault tell what reading gives, unless memory ran out.
use Rattle.std.proofs.Common.{◌≡◌, ℕ, true, false, List, refl, sym, Result, Ok, Err}
use Rattle.std.specs.Prelude.{IfOk, IsErr}
use Rattle.kr_defs.specs.declared.record.Record.{Record}
use Rattle.kr_record.specs.declared.fault.RecordFault.{RecordFault}
use Rattle.kr_record.specs.declared.fault.RecordFault.TheVariants as faults
use Rattle.kr_record.specs.Answers as record_answers
use Rattle.kr_batch.specs.declared.Batch.{Batch}
use Rattle.kr_batch.specs.declared.fault.BatchFault.{BatchFault}
use Rattle.kr_batch.specs.declared.fault.BatchFault.TheVariants as batches
use Rattle.kr_batch.specs.Answers as batch_answers
use Rattle.testlib_codec_answers.specs.Words.{TellsRecord, TellsBatch, record_fault_words, batch_fault_words}

pub true_not_false : true ≡ false → ⊥
true_not_false e = cc

module _ {T : Type 0} (bytes_of : T → List ℕ) (len : ℕ) where
  record_told : (e : RecordFault) (read : Result Record RecordFault) (text : T) → (e ≡ faults.NoMemory → ⊥) → record_answers.IsFault e read
      → bytes_of text ≡ record_fault_words e → TellsRecord (bytes_of text) len read
  record_told faults.NoMemory read text none is told = absurd (none refl)
  record_told (faults.Wire kind) read text none is told = rw is told
  record_told (faults.FrameVersion found) read text none is told = rw is told
  record_told (faults.UnknownKey key) read text none is told = rw is told
  record_told (faults.UnknownVersion key version) read text none is told = rw is told
  record_told faults.Trailing read text none is told = rw is told

  pub told_record : {E : Type 0} (e : RecordFault) (read : Result Record RecordFault) (answer : Result T E) → record_answers.IsFault e read
      → IfOk answer (λ text. bytes_of text ≡ record_fault_words e) → (e ≡ faults.NoMemory → IsErr answer) → IfOk answer (λ text. TellsRecord (bytes_of text) len read)
  told_record e read (Ok text) is told none = record_told e read text (λ no. true_not_false (sym (none no))) is told
  told_record e read (Err f) is told none = tt

  batch_told : (e : BatchFault) (read : Result Batch BatchFault) (text : T) → (e ≡ batches.NoMemory → ⊥) → batch_answers.IsFault e read
      → bytes_of text ≡ batch_fault_words e → TellsBatch (bytes_of text) len read
  batch_told batches.NoMemory read text none is told = absurd (none refl)
  batch_told batches.Short read text none is told = rw is told
  batch_told batches.Trailing read text none is told = rw is told
  batch_told (batches.Magic found) read text none is told = rw is told
  batch_told (batches.Crc stored counted) read text none is told = rw is told
  batch_told (batches.Compressed kind) read text none is told = rw is told
  batch_told (batches.BadCount count delta) read text none is told = rw is told
  batch_told (batches.BadOffset at) read text none is told = rw is told
  batch_told (batches.Record at cause) read text none is told = rw is told

  pub told_batch : {E : Type 0} (e : BatchFault) (read : Result Batch BatchFault) (answer : Result T E) → batch_answers.IsFault e read
      → IfOk answer (λ text. bytes_of text ≡ batch_fault_words e) → (e ≡ batches.NoMemory → IsErr answer) → IfOk answer (λ text. TellsBatch (bytes_of text) len read)
  told_batch e read (Ok text) is told none = batch_told e read text (λ no. true_not_false (sym (none no))) is told
  told_batch e read (Err f) is told none = tt
