-- Where a reader got a copy, its count stays.
use Rattle.std.proofs.Common.{◌≡◌}
use Rattle.std.specs.Prelude.{Result, Ok, Err}
use Rattle.kr_view.specs.declared.scans.ScanFault.{ScanFault}
use Rattle.kr_view.specs.declared.scans.ScanFault.TheVariants.{Gone, NotKept, NoCopy, NoMemory}
use Rattle.kr_view.specs.Readers.{HasScanCause, Reading}
use Rattle.kr_view.specs.Scans.{HasCopy}

pub with_copy : {A : Type 0} (old new : Reading) (result : Result A ScanFault) → HasCopy result → new.misses ≡ old.misses → HasScanCause old new result
with_copy old new (Ok answer) copy same = same
with_copy old new (Err (Gone asked oldest)) copy same = same
with_copy old new (Err (NotKept asked)) copy same = same
with_copy old new (Err NoCopy) copy same = absurd copy
with_copy old new (Err NoMemory) copy same = same
