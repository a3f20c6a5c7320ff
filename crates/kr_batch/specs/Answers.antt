-- How the decoder's answer follows from reading. Want of memory is free.
use Rattle.std.specs.Prelude.{ℕ, Bool, true, false, List, Result}
use Rattle.kr_wire.specs.Answers as answers
use Rattle.kr_record.specs.declared.fault.RecordFault.{RecordFault}
use Rattle.kr_record.specs.declared.fault.RecordFault.TheVariants as causes
use Rattle.kr_batch.specs.declared.fault.BatchFault.{BatchFault}
use Rattle.kr_batch.specs.declared.fault.BatchFault.TheVariants as faults
use Rattle.kr_batch.specs.declared.fault.Cause.TheVariants.{Value}

-- want of memory
abbrev pub is_free : BatchFault → Bool
is_free faults.NoMemory = true
is_free _ = false

abbrev pub IsFault : {Y : Type 0} → BatchFault → Result Y BatchFault → Type 0
IsFault = answers.IsFault is_free

abbrev pub Gives : {Y : Type 0} → Result Y BatchFault → Result Y BatchFault → Type 0
Gives = answers.Gives is_free

abbrev pub GivesAt : {Y : Type 0} → Result (Y × ℕ) BatchFault → List ℕ → Result (Y × List ℕ) BatchFault → Type 0
GivesAt = answers.GivesAt is_free

-- the fault of a record's value
abbrev pub fault_as : ℕ → RecordFault → BatchFault
fault_as at causes.NoMemory = faults.NoMemory
fault_as at cause = faults.Record at (Value cause)
