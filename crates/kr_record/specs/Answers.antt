-- How a decoder's answer follows from reading. Want of memory is free.
use Rattle.std.specs.Prelude.{◌≡◌, ℕ, Bool, true, false, List, Result, Ok, Err}
use Rattle.kr_wire.specs.Answers as answers
use Rattle.kr_wire.specs.declared.WireFault.{WireFault}
use Rattle.kr_layout.specs.declared.fault.ReadFault.{ReadFault}
use Rattle.kr_layout.specs.declared.fault.ReadFault.TheVariants as reads
use Rattle.kr_record.specs.declared.fault.RecordFault.{RecordFault}
use Rattle.kr_record.specs.declared.fault.RecordFault.TheVariants as faults

-- the fault of a layout as one of a record
abbrev pub of_read_fault : ReadFault → RecordFault
of_read_fault (reads.Wire fault) = faults.Wire fault
of_read_fault reads.NoMemory = faults.NoMemory

-- the fault of a field's data, or want of memory
abbrev pub IsFieldFault : {Y : Type 0} → ReadFault → Result Y WireFault → Type 0
IsFieldFault (reads.Wire fault) read = read ≡ Err fault
IsFieldFault reads.NoMemory read = Unit {0}

-- what a field's data give, as it is seen in the answer
abbrev pub GivesField : {X Y : Type 0} → (X → Y) → Result X ReadFault → Result Y WireFault → Type 0
GivesField view (Ok x) read = read ≡ Ok (view x)
GivesField view (Err e) read = IsFieldFault e read

-- want of memory
abbrev pub is_free : RecordFault → Bool
is_free faults.NoMemory = true
is_free _ = false

abbrev pub IsFault : {Y : Type 0} → RecordFault → Result Y RecordFault → Type 0
IsFault = answers.IsFault is_free

abbrev pub Gives : {Y : Type 0} → Result Y RecordFault → Result Y RecordFault → Type 0
Gives = answers.Gives is_free

-- the same of what there was to read
abbrev pub GivesFront : {Y : Type 0} → Result Y RecordFault → List ℕ → Result (Y × List ℕ) RecordFault → Type 0
GivesFront (Ok x) left read = read ≡ Ok (x, left)
GivesFront (Err e) left read = IsFault e read
