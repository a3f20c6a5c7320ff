use Rattle.std.proofs.Common.{◌≡◌, ◌∙◌, ◌≤◌, ap, refl, subst, sym, ℕ, length}
use Rattle.std.specs.Prelude.{Result, Err}
use Rattle.std.proofs.lemmas.Result.{err_from_is_err_and}
use Rattle.law_nodes.specs.declared.moves.MoveFault.{MoveFault}
use Rattle.law_nodes.specs.declared.moves.MoveFault.TheVariants as faults
use Rattle.kr_nodes.specs.inner.Acting.{ActsAt, MakesSome, one_outcome}
use Rattle.kr_nodes.proofs.Clusters.{one_made, one_missing}
use Rattle.kr_nodes.proofs.cluster.Cluster.make_one.Goals as goal

pub returns-in_err-check_node : goal.returns-in_err-check_node
returns-in_err-check_node g c =
    let p = err_from_is_err_and c.from_residual.result c.from_residual.ensures.1 in
    let cluster = c.args.self.now in
    let node = c.moved_node-node.ensures in
    let fault = c.in_err-check_node.field-0.0 in
    let same : c.from_residual.result ≡ Err fault = p.1 ∙ ap (λ (f : MoveFault). Err f) p.2 in
    subst (λ (x : Result (Unit {0}) MoveFault). MakesSome cluster cluster c.args.turn x) (sym same)
    (one_missing cluster c.args.turn fault c.requires.one (subst (λ (k : ℕ). length cluster.nodes.items ≤ k) node c.in_err-check_node.ensures.0)
    (c.in_err-check_node.ensures.1 ∙ ap (λ (k : ℕ). faults.NoNode k cluster.count) node))

pub returns : goal.returns
returns g c =
    let cluster = c.args.self.now in
    one_made cluster (record cluster { nodes = c.act_at.new.nodes; shared = c.act_at.new.shared }) c.args.turn c.act_at.result c.requires.one
    (subst (λ (k : ℕ). ActsAt (λ options r n. one_outcome options r k n c.args.turn) k cluster.nodes.items c.act_at.new.nodes.items cluster.shared c.act_at.new.shared c.act_at.result) c.moved_node-node.ensures c.act_at.ensures)
    refl refl
