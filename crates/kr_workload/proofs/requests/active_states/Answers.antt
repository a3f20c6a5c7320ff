use Rattle.std.proofs.Common.{◌∙◌}
use Rattle.kr_workload.proofs.ActiveStates.{states_more}
use Rattle.kr_workload.proofs.requests.active_states.Goals as goal

pub loop-broker-preserved : goal.loop-broker-preserved
loop-broker-preserved g c = rw c.in_ok-add_if_active.ensures (states_more c.args.seen.now c.args.brokers.now c.loop-broker.broker-index _ c.loop-broker-test.true c.loop-broker.states ∙ c.loop-broker.invariant)
