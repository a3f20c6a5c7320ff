use Rattle.std.proofs.Common.{arith, refl, ◌∙◌}
use Rattle.kr_timeline.proofs.Drops.{drops_none, drops_more, drops_falling}
use Rattle.kr_timeline.proofs.intervals.drop_after.Goals as goal

pub loop-chains-init : goal.loop-chains-init
loop-chains-init g c = record { drops = drops_none g.K.Ord.cmp c.args.number c.args.kept.now.items c.args.chains.now.entries; falls = c.requires.falls; capacity = refl; counted = refl; within = c.requires.within }

pub loop-chains-preserved : goal.loop-chains-preserved
loop-chains-preserved g c = record {
  drops = drops_more g.K.Ord.cmp c.args.number _ _ _ _ _ _ c.loop-chains.invariant.drops c.drop_last.ensures.drops;
  falls = drops_falling g.K.Ord.cmp c.args.number _ _ _ _ c.drop_last.ensures.drops c.loop-chains.invariant.falls;
  capacity = c.drop_last.ensures.capacity ∙ c.loop-chains.invariant.capacity;
  counted = c.drop_last.ensures.counted ∙ c.loop-chains.invariant.counted;
  within = omega (arith, c.drop_last.ensures.len);
}
