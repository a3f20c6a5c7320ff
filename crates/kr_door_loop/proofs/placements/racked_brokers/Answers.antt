use Rattle.std.proofs.Common.{◌∙◌, ◌+◌, ℤ, List, drop, sym, ap}
use Rattle.kr_defs.specs.Placed.{Rack}
use Rattle.kr_door_loop.specs.Placements.{racked_brokers}
use Rattle.kr_door_loop.proofs.Racks.{once, twice}
use Rattle.kr_door_loop.proofs.placements.racked_brokers.Goals as goal

pub returns-then-contains : goal.returns-then-contains
returns-then-contains c =
    twice c.loop-broker.brokers c.args.rows.now c.loop-broker.broker-index c.broker-item.result c.loop-broker-test.true c.broker-item.is (sym c.contains.ensures ∙ c.if-contains.true)
    ∙ c.loop-broker.invariant

pub loop-broker-preserved : goal.loop-broker-preserved
loop-broker-preserved c =
    let rest = drop (c.loop-broker.broker-index + 1) c.args.rows.now in
    ap (λ (l : List (ℤ × Rack)). racked_brokers l rest) c.in_ok-push_broker.ensures
    ∙ (sym (once c.loop-broker.brokers c.args.rows.now c.loop-broker.broker-index c.broker-item.result c.loop-broker-test.true c.broker-item.is (sym c.contains.ensures ∙ c.if-contains.false))
    ∙ c.loop-broker.invariant)
