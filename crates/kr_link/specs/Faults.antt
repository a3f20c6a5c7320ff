-- Why bytes are no batch: places are below 2 ^ 63, as Kafka's offsets.
use Rattle.std.specs.Prelude.{◌≡◌, ◌+◌, ◌≤◌, ◌<◌, ◌^◌, ℕ, Result, Ok, Err}
use Rattle.law_quorum.specs.Batches.{Batch}
use Rattle.kr_link.specs.declared.batch.LogBatchFault.{LogBatchFault}
use Rattle.kr_link.specs.declared.batch.LogBatchFault.TheVariants.{NoMemory, PastTheEnd}

-- of a batch of so many records from the place on; it ends behind the last place
abbrev pub IsBatchOrFault : ℕ → ℕ → Result Batch LogBatchFault → Batch → Type 0
IsBatchOrFault base count (Ok batch) other = (batch ≡ other) × (base + count < 2 ^ 63)
IsBatchOrFault base count (Err PastTheEnd) other = 2 ^ 63 ≤ base + count
IsBatchOrFault base count (Err NoMemory) other = Unit {0}
