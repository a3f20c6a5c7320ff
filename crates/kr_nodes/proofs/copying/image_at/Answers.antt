use Rattle.std.proofs.Common.{refl}
use Rattle.std.proofs.lemmas.Result.{IfOk-weaker}
use Rattle.kr_nodes.proofs.RefusedMoves.{stands_at}
use Rattle.kr_nodes.proofs.copying.image_at.Goals as goal

pub returns : goal.returns
returns g c =
    IfOk-weaker c.image.result _ _
    (λ event images. record {
      before = c.index_mut.result.now;
      after = c.image.new.self;
      there = stands_at c.args.nodes.now.items c.args.number c.index_mut.result.now c.requires.there c.index_mut.ensures.value;
      put = refl;
      images = images;
    }) c.image.ensures
