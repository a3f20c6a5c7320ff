use Rattle.std.proofs.Common.{◌∙◌, arith}
use Rattle.std.specs.BTreeMap.{is_at}
use Rattle.kr_timeline.specs.Chains.{left_of}
use Rattle.kr_timeline.proofs.Trims.{all_rest, falls_trimmed}
use Rattle.kr_timeline.proofs.intervals.trim_keys.Goals as goal

pub loop-key-preserved : goal.loop-key-preserved
loop-key-preserved g c = record {
  left = all_rest g.K.Ord.cmp (left_of c.args.part c.args.number) c.args.keys.now.items c.loop-key.key-index c.key-item.result c.loop-key.chains.entries c.trim.new.chains.entries (rw c.deref-key-items.ensures.value at c.loop-key-test.true) (rw c.deref-key-items.ensures.value at c.key-item.is) c.trim.ensures ∙ c.loop-key.invariant.left;
  falls = rw c.trim.ensures (falls_trimmed (is_at (g.K.Ord.cmp c.key-item.result)) c.args.part c.args.number c.loop-key.chains.entries c.loop-key.invariant.falls);
  counted = omega arith;
}
