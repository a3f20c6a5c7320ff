use Rattle.std.specs.BTreeMap.{is_at}
use Rattle.kr_timeline.specs.Chains.{repeated}
use Rattle.kr_timeline.proofs.Restores.{all_more, trimmed_by, left-repeated, falls_repeated, low_repeated}
use Rattle.kr_timeline.proofs.restoration.repeat_keys.Goals as goal

pub loop-key-preserved : goal.loop-key-preserved
loop-key-preserved g c =
    let one = trimmed_by g.K.Ord.cmp (repeated c.args.from c.args.above) c.key-item.result c.loop-key.chains.entries c.repeat.new.chains.entries c.in_ok-repeat.ensures.absent c.in_ok-repeat.ensures.ok (λ chain is. left-repeated c.args.from c.args.above chain) in
    record {
      is = all_more g.K.Ord.cmp (repeated c.args.from c.args.above) c.args.keys.now.items c.loop-key.key-index c.key-item.result c.args.chains.now.entries c.loop-key.chains.entries c.repeat.new.chains.entries (rw c.deref-key-items.ensures.value at c.loop-key-test.true) (rw c.deref-key-items.ensures.value at c.key-item.is) c.loop-key.invariant.is one;
      falls = rw one (falls_repeated (is_at (g.K.Ord.cmp c.key-item.result)) c.args.from c.args.above c.loop-key.chains.entries c.loop-key.invariant.up_to c.loop-key.invariant.falls);
      up_to = rw one (low_repeated (is_at (g.K.Ord.cmp c.key-item.result)) c.args.from c.args.above c.loop-key.chains.entries c.loop-key.invariant.up_to);
    }
