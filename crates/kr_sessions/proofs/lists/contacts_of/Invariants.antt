use Rattle.std.proofs.Common.{◌≡◌, ◌+◌, ◌≤◌, ◌++◌, map, drop, length}
use Rattle.kr_defs.specs.Heartbeats.{new_contact}
use Rattle.kr_sessions.proofs.lists.contacts_of.Given as goal

abbrev pub invariant-loop-broker : goal.invariant-loop-broker
invariant-loop-broker l = record {
  heard : l.list.contacts ++ map (new_contact l.now) (drop l.broker-index l.brokers) ≡ map (new_contact l.now) l.brokers;
  room : length l.brokers ≤ l.list.spare + l.broker-index;
}
