use Rattle.std.proofs.Common.{◌≡◌}
use Rattle.kr_view.specs.Seats.{Onward}
use Rattle.kr_shared.specs.Clients.{MayRise}
use Rattle.kr_shared.proofs.pins.wait_for.Given as goal

abbrev pub invariant-loop : goal.invariant-loop
invariant-loop g l = record {
  same : l.reader.number ≡ l.fn.reader.number;
  onward : Onward l.fn.reader.seen l.reader.seen;
  misses : MayRise l.fn.reader.misses l.reader.misses;
}
