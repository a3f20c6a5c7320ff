use Rattle.std.proofs.Common.{arith, ◌∙◌, sym, refl}
use Rattle.kr_timeline.proofs.Drops.{forgets_none, forgets_more, first_falling}
use Rattle.kr_timeline.proofs.intervals.drop_below.Goals as goal

pub loop-chains-init : goal.loop-chains-init
loop-chains-init g c = record { forgets = forgets_none g.K.Ord.cmp c.args.epoch.now c.args.kept.now.items c.args.chains.now.entries; falls = c.requires; capacity = refl; len = omega arith; counted = refl }

pub loop-chains-preserved : goal.loop-chains-preserved
loop-chains-preserved g c = record {
  forgets = forgets_more g.K.Ord.cmp c.args.epoch.now _ _ _ _ _ _ c.loop-chains.invariant.forgets (sym c.is_first_below.ensures ∙ c.loop-chains-test.true) c.drop_first.ensures.first;
  falls = first_falling g.K.Ord.cmp _ _ _ _ c.drop_first.ensures.first c.loop-chains.invariant.falls;
  capacity = c.drop_first.ensures.capacity ∙ c.loop-chains.invariant.capacity;
  len = omega (arith, c.drop_first.ensures.fewer);
  counted = c.drop_first.ensures.counted ∙ c.loop-chains.invariant.counted;
}
