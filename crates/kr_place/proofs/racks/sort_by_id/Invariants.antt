use Rattle.std.proofs.Common.{◌≡◌, take}
use Rattle.kr_defs.specs.Placed.{by_id}
use Rattle.kr_place.proofs.racks.sort_by_id.Given as goal

abbrev pub invariant-loop-broker : goal.invariant-loop-broker
invariant-loop-broker l = l.sorted.entries ≡ by_id (take l.broker-index l.brokers)
