-- Faults that are handed on.
use Rattle.std.proofs.Common.{◌≡◌, ℕ, Result, Err, ap}
use Rattle.kr_defs.specs.declared.record.Record.{Record}
use Rattle.kr_record.specs.declared.fault.RecordFault.{RecordFault}
use Rattle.kr_record.specs.declared.fault.RecordFault.TheVariants as causes
use Rattle.kr_record.specs.Answers as record_answers
use Rattle.kr_batch.specs.declared.fault.BatchFault.{BatchFault}
use Rattle.kr_batch.specs.declared.fault.BatchFault.TheVariants as faults
use Rattle.kr_batch.specs.declared.fault.Cause.TheVariants.{Value}
use Rattle.kr_batch.specs.Answers.{IsFault, fault_as}
use Rattle.kr_batch.specs.Reading.{caused}

pub is_fault : {Y : Type 0} (e : BatchFault) (read : Result Y BatchFault) → read ≡ Err e → IsFault e read
is_fault faults.NoMemory read is = tt
is_fault faults.Short read is = is
is_fault faults.Trailing read is = is
is_fault (faults.Magic found) read is = is
is_fault (faults.Crc stored counted) read is = is
is_fault (faults.Compressed kind) read is = is
is_fault (faults.BadCount count delta) read is = is
is_fault (faults.BadOffset at) read is = is
is_fault (faults.Record at cause) read is = is

-- a fault of a part is one of the whole
pub through : {X Y : Type 0} (e : BatchFault) (read : Result X BatchFault) (whole : Result Y BatchFault)
    → ((f : BatchFault) → read ≡ Err f → whole ≡ Err f) → IsFault e read → IsFault e whole
through faults.NoMemory read whole step is = tt
through faults.Short read whole step is = step _ is
through faults.Trailing read whole step is = step _ is
through (faults.Magic found) read whole step is = step _ is
through (faults.Crc stored counted) read whole step is = step _ is
through (faults.Compressed kind) read whole step is = step _ is
through (faults.BadCount count delta) read whole step is = step _ is
through (faults.BadOffset at) read whole step is = step _ is
through (faults.Record at cause) read whole step is = step _ is

as_caused : (at : ℕ) (cause : RecordFault) (read : Result Record RecordFault) → read ≡ Err cause → caused at read ≡ Err (faults.Record at (Value cause))
as_caused at cause read is = ap (caused at) is

pub value_fault : (at : ℕ) (cause : RecordFault) (read : Result Record RecordFault) → record_answers.IsFault cause read → IsFault (fault_as at cause) (caused at read)
value_fault at causes.NoMemory read is = tt
value_fault at (causes.Wire fault) read is = as_caused at _ read is
value_fault at (causes.FrameVersion found) read is = as_caused at _ read is
value_fault at (causes.UnknownKey key) read is = as_caused at _ read is
value_fault at (causes.UnknownVersion key version) read is = as_caused at _ read is
value_fault at causes.Trailing read is = as_caused at _ read is
