use Rattle.std.proofs.Common.{◌≡◌, map, take}
use Rattle.kr_defs.specs.Heartbeats.{new_stopping}
use Rattle.kr_sessions.proofs.lists.stopping_of.Given as goal

abbrev pub invariant-loop-broker : goal.invariant-loop-broker
invariant-loop-broker l = l.stopping.items ≡ map (new_stopping l.tip) (take l.broker-index l.brokers)
