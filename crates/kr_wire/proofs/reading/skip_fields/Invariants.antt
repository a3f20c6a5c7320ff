use Rattle.std.proofs.Common.{◌≡◌, ◌-◌, ◌≤◌, length, drop, None}
use Rattle.kr_wire.specs.Reading.{none_known, fields_at}
use Rattle.kr_wire.proofs.reading.skip_fields.Given as goal

abbrev pub invariant-loop : goal.invariant-loop
invariant-loop l = record {
  within : l.next ≤ length l.bytes;
  so_far : fields_at none_known (l.count - l.counter) l.last tt (drop l.next l.bytes) ≡ fields_at none_known l.count None tt (drop l.start l.bytes);
}
