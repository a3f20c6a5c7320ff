use Rattle.std.proofs.Common.{refl, subst, ℤ, w64}
use Rattle.std.proofs.lemmas.Int.{to_z-of_z}
use Rattle.std.proofs.lemmas.Result.{on_ok_weaker}
use Rattle.kr_nodes.specs.inner.Copying.{LoadsEvent}
use Rattle.kr_nodes.proofs.RefusedMoves.{stands_at}
use Rattle.kr_nodes.proofs.copying.load_at.Goals as goal

pub returns : goal.returns
returns g c =
    on_ok_weaker c.load.result
    (λ loads. record {
      before = c.index_mut.result.now;
      after = c.load.new.self;
      there = stands_at c.args.nodes.now.items c.args.number c.index_mut.result.now c.requires.there c.index_mut.ensures.value;
      put = refl;
      loads = subst (λ (z : ℤ). LoadsEvent c.args.number c.index_mut.result.now c.load.new.self c.args.event.now z c.args.fed c.args.told.now.items c.load.new.told.items) (to_z-of_z w64 c.args.end c.ranges.end) loads;
    }) c.load.ensures
