use Rattle.std.proofs.Common.{◌∷◌}
use Rattle.law_balance.specs.Election.{entries_by_topic}
use Rattle.kr_rebalance.proofs.Groups.{grouped_here}
use Rattle.kr_rebalance.proofs.election.topics_from.Goals as goal

pub loop-named-preserved : goal.loop-named-preserved
loop-named-preserved c =
    grouped_here c.loop-named.grouping c.add.new.self c.args.others.now c.loop-named.named-index c.named-item.result (entries_by_topic (c.args.first.now ∷ c.args.others.now)) c.loop-named-test.true c.named-item.is c.in_ok-add.ensures c.loop-named.invariant
