use Rattle.std.proofs.Common.{refl}
use Rattle.kr_nodes.proofs.Copies.{images}
use Rattle.kr_nodes.proofs.node.Node.image.Goals as goal

pub returns : goal.returns
returns g c =
    let shared = c.args.shared.now in
    images c.args.number c.args.self.now c.take.new.self shared (record shared { told = c.take.new.told }) _ c.requires c.in_ok-event.ensures c.in_ok-take.ensures refl
