use Rattle.std.specs.BTreeMap.{is_at}
use Rattle.kr_timeline.specs.Chains.{cut}
use Rattle.kr_timeline.specs.declared.chain.Trim.TheVariants as trims
use Rattle.kr_timeline.proofs.Trims.{falls_trimmed}
use Rattle.kr_timeline.proofs.Restores.{all_more}
use Rattle.kr_timeline.proofs.restoration.cut_keys.Goals as goal

pub loop-key-preserved : goal.loop-key-preserved
loop-key-preserved g c = record {
  is = all_more g.K.Ord.cmp (cut c.args.number) c.args.keys.now.items c.loop-key.key-index c.key-item.result c.args.chains.now.entries c.loop-key.chains.entries c.trim.new.chains.entries (rw c.deref-key-items.ensures.value at c.loop-key-test.true) (rw c.deref-key-items.ensures.value at c.key-item.is) c.loop-key.invariant.is c.trim.ensures;
  falls = rw c.trim.ensures (falls_trimmed (is_at (g.K.Ord.cmp c.key-item.result)) trims.Above c.args.number c.loop-key.chains.entries c.loop-key.invariant.falls);
}
