use Rattle.std.proofs.Common.{◌≡◌, ◌-◌, ◌≤◌, length, drop}
use Rattle.kr_batch.specs.Reading.{records_from}
use Rattle.kr_batch.proofs.Entries.{with_front}
use Rattle.kr_batch.proofs.decoding.read_entries.Given as goal

abbrev pub invariant-loop-number : goal.invariant-loop-number
invariant-loop-number l = record {
  within : l.next ≤ length l.bytes;
  so_far : with_front l.list.items (records_from l.number (l.count - l.number) (drop l.next l.bytes)) ≡ records_from 0 l.count l.bytes;
}
