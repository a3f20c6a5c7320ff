use Rattle.kr_timeline.specs.Chains.{lowered}
use Rattle.kr_timeline.proofs.Restores.{all_more, trimmed_by}
use Rattle.kr_timeline.proofs.restoration.lower_keys.Goals as goal

pub loop-key-preserved : goal.loop-key-preserved
loop-key-preserved g c =
    all_more g.K.Ord.cmp (lowered c.args.above c.args.number) c.args.keys.now.items c.loop-key.key-index c.key-item.result c.args.chains.now.entries c.loop-key.chains.entries c.lower.new.chains.entries (rw c.deref-key-items.ensures.value at c.loop-key-test.true) (rw c.deref-key-items.ensures.value at c.key-item.is) c.loop-key.invariant
    (trimmed_by g.K.Ord.cmp (lowered c.args.above c.args.number) c.key-item.result c.loop-key.chains.entries c.lower.new.chains.entries c.lower.ensures.absent c.lower.ensures.lowered c.lower.ensures.left)
