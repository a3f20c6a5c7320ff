use Rattle.std.proofs.Common.{◌≤◌, drop}
use Rattle.kr_engine.specs.inner.Tick.{Advances}
use Rattle.kr_engine.proofs.Fencings.{FencesOn}
use Rattle.kr_engine.proofs.engine.Engine.fence_all.Given as goal

abbrev pub invariant-loop-broker : goal.invariant-loop-broker
invariant-loop-broker g l = record {
  on : FencesOn l.fn.self l.self l.brokers (drop l.broker-index l.brokers);
  counted : Advances l.fn.self l.self l.fn.steps l.steps;
  later : l.fn.steps ≤ l.steps;
}
