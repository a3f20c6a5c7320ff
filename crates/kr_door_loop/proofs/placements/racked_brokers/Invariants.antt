use Rattle.std.proofs.Common.{◌≡◌, [], drop}
use Rattle.kr_door_loop.specs.Placements as placing
use Rattle.kr_door_loop.proofs.placements.racked_brokers.Given as goal

abbrev pub invariant-loop-broker : goal.invariant-loop-broker
invariant-loop-broker l = placing.racked_brokers l.brokers (drop l.broker-index l.rows) ≡ placing.racked_brokers [] l.rows
