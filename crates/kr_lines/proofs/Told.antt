-- What is told of an answer whose line was written: its own status, or NoMemory in place of a batch's fault.
use Rattle.std.proofs.Common.{◌≡◌, ◌∙◌, ◌⊎◌, inl, inr, Result, Ok, Err, refl, sym}
use Rattle.kr_process.specs.declared.status.Status.{Status}
use Rattle.kr_process.specs.declared.status.Status.TheVariants as statuses
use Rattle.kr_lines.specs.declared.fault.ShowFault.{ShowFault}
use Rattle.kr_lines.specs.declared.fault.ShowFault.TheVariants as faults
use Rattle.kr_lines.specs.Notes.{NeedsNumber, status_for}

abbrev Answer : Type 0
Answer = Result (Unit {0}) ShowFault

abbrev pub Same : Answer → Answer → Type 0
Same told answer = (told ≡ answer) ⊎ (NeedsNumber answer × (told ≡ Err faults.NoMemory))

is_read : (told : Answer) → status_for told ≡ statuses.ReadFault → told ≡ Err faults.ReadFault
is_read (Ok done) is = absurd cc
is_read (Err faults.BadHead) is = absurd cc
is_read (Err (faults.Malformed at cause)) is = absurd cc
is_read (Err faults.ReadFault) is = refl
is_read (Err faults.WriteFault) is = absurd cc
is_read (Err faults.NoMemory) is = absurd cc
is_read (Err faults.TooLong) is = absurd cc

is_write : (told : Answer) → status_for told ≡ statuses.WriteFault → told ≡ Err faults.WriteFault
is_write (Ok done) is = absurd cc
is_write (Err faults.BadHead) is = absurd cc
is_write (Err (faults.Malformed at cause)) is = absurd cc
is_write (Err faults.ReadFault) is = absurd cc
is_write (Err faults.WriteFault) is = refl
is_write (Err faults.NoMemory) is = absurd cc
is_write (Err faults.TooLong) is = absurd cc

pub read_told : (told answer : Answer) (ended : Status) → Same told answer → ended ≡ status_for told → ended ≡ statuses.ReadFault → answer ≡ Err faults.ReadFault
read_told told answer ended (inl e) status is = sym e ∙ is_read told (sym status ∙ is)
read_told told answer ended (inr p) status is = let read = is_read told (sym status ∙ is) in let none = p.1 in absurd cc

pub write_told : (told answer : Answer) (ended : Status) → Same told answer → ended ≡ status_for told → ended ≡ statuses.WriteFault → answer ≡ Err faults.WriteFault
write_told told answer ended (inl e) status is = sym e ∙ is_write told (sym status ∙ is)
write_told told answer ended (inr p) status is = let write = is_write told (sym status ∙ is) in let none = p.1 in absurd cc
