use Rattle.std.proofs.Common.{refl, []}
use Rattle.kr_nodes.proofs.FirstNodes.{first_cluster}
use Rattle.kr_nodes.proofs.cluster.Cluster.new.Goals as goal

pub returns : goal.returns
returns c =
    let stands = first_cluster _ _ _ c.in_ok-first_nodes.ensures refl refl c.new.ensures.items refl refl c.new-2.ensures.items in
    record { stands = stands; ready = λ running. record { options = c.args.options; nodes = c.args.nodes; past = []; stands = stands } }
