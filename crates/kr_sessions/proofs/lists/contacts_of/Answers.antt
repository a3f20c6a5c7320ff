use Rattle.std.proofs.Common.{arith}
use Rattle.kr_sessions.proofs.Begins.{begun_more}
use Rattle.kr_sessions.proofs.lists.contacts_of.Goals as goal

pub loop-broker-preserved : goal.loop-broker-preserved
loop-broker-preserved c =
    let room = c.loop-broker.invariant.room in
    let used = c.touch.ensures.spare in
    record {
      heard = begun_more c.args.now.now c.args.brokers.now c.loop-broker.broker-index _ _ _ c.requires c.loop-broker-test.true c.touch.ensures.contacts c.loop-broker.invariant.heard;
      room = omega arith;
    }
