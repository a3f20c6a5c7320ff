use Rattle.std.proofs.Common.{◌≡◌, ◌++◌, drop}
use Rattle.kr_workload.specs.Requests.{active_states}
use Rattle.kr_workload.proofs.requests.active_states.Given as goal

abbrev pub invariant-loop-broker : goal.invariant-loop-broker
invariant-loop-broker g l = l.states ++ active_states l.seen (drop l.broker-index l.brokers) ≡ active_states l.seen l.brokers
