use Rattle.std.proofs.Common.{rules}
use Rattle.kr_engine.proofs.Fencings.{advances_more, next_fenced, next_open, next_valid}
use Rattle.kr_engine.proofs.engine.Engine.fence_all.Goals as goal

pub fence-requires-clause-open : goal.fence-requires-clause-open
fence-requires-clause-open g c =
    next_open c.args.self.now c.loop-broker.self c.args.brokers.now c.loop-broker.broker-index c.loop-broker.invariant.on c.loop-broker-test.true

pub fence-requires-clause-valid : goal.fence-requires-clause-valid
fence-requires-clause-valid g c =
    next_valid c.args.self.now c.loop-broker.self c.args.brokers.now c.loop-broker.broker-index c.loop-broker.invariant.on c.loop-broker-test.true

pub loop-broker-preserved : goal.loop-broker-preserved
loop-broker-preserved g c =
    let at = c.loop-broker.self in
    let fenced = c.in_ok-fence.ensures in
    record {
      on = next_fenced c.args.self.now at c.args.brokers.now c.loop-broker.broker-index c.loop-broker.invariant.on c.loop-broker-test.true c.fence.new.self fenced.fences fenced.heard fenced.valid;
      counted = advances_more c.args.self.now at c.fence.new.self c.args.steps.now c.loop-broker.steps c.fence.new.steps c.loop-broker.invariant.counted fenced.counted;
      later = search rules;
    }
