-- Faults that are handed on.
use Rattle.std.proofs.Common.{◌≡◌, ℕ, Bool, true, false, Result, Err, ap}
use Rattle.kr_wire.specs.Answers.{Unless}
use Rattle.kr_batch.specs.declared.Batch.{Batch}
use Rattle.kr_batch.specs.declared.fault.BatchFault.{BatchFault}
use Rattle.kr_snapshot.specs.declared.fault.ImageFault.{ImageFault}
use Rattle.kr_batch.specs.declared.fault.BatchFault.TheVariants as refusals
use Rattle.kr_batch.specs.Answers as batches
use Rattle.kr_snapshot.specs.declared.fault.BatchCause.TheVariants as causes
use Rattle.kr_snapshot.specs.Reading.{batch_fault_behind, batch_refused}
use Rattle.kr_snapshot.specs.ReaderState.{is_free, IsFault, fault_of_batch}

unless : {P Q : Type 0} (free : Bool) → (P → Q) → Unless free P → Unless free Q
unless true f p = tt
unless false f p = f p

known : {P : Type 0} (free : Bool) → P → Unless free P
known true p = tt
known false p = p

-- a fault of a part is one of the whole
pub through : {X Y : Type 0} (e : ImageFault) (read : Result X ImageFault) (whole : Result Y ImageFault)
    → (read ≡ Err e → whole ≡ Err e) → IsFault e read → IsFault e whole
through e read whole step is = unless (is_free e) step is

pub is_fault : {Y : Type 0} (e : ImageFault) (read : Result Y ImageFault) → read ≡ Err e → IsFault e read
is_fault e read is = known (is_free e) is

as_refused : (found : ℕ) (fault : BatchFault) (read : Result Batch BatchFault) → read ≡ Err fault → batch_refused found read ≡ Err (batch_fault_behind found (causes.Refused fault))
as_refused found fault read is = ap (batch_refused found) is

-- the fault of a batch
pub refusal : (found : ℕ) (fault : BatchFault) (read : Result Batch BatchFault) → batches.IsFault fault read → IsFault (fault_of_batch found fault) (batch_refused found read)
refusal found refusals.NoMemory read is = tt
refusal found refusals.Short read is = as_refused found _ read is
refusal found refusals.Trailing read is = as_refused found _ read is
refusal found (refusals.Magic number) read is = as_refused found _ read is
refusal found (refusals.Crc stored counted) read is = as_refused found _ read is
refusal found (refusals.Compressed kind) read is = as_refused found _ read is
refusal found (refusals.BadCount count delta) read is = as_refused found _ read is
refusal found (refusals.BadOffset at) read is = as_refused found _ read is
refusal found (refusals.Record at cause) read is = as_refused found _ read is
