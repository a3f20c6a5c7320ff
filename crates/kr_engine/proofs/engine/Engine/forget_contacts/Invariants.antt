use Rattle.std.proofs.Common.{◌≡◌, drop}
use Rattle.std.specs.Prelude.{fold}
use Rattle.kr_defs.specs.Heartbeats.{leave}
use Rattle.kr_engine.proofs.engine.Engine.forget_contacts.Given as goal

abbrev pub invariant-loop-broker : goal.invariant-loop-broker
invariant-loop-broker l = record {
  left : fold leave l.self.heard (drop l.broker-index l.brokers) ≡ fold leave l.fn.self.heard l.brokers;
  same : l.self ≡ record l.fn.self { heard = l.self.heard };
}
