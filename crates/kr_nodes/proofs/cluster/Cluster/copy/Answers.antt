use Rattle.std.proofs.Common.{rules, ◌≡◌, ◌∙◌, ap, refl, subst, sym, ℤ, List, w64, to_z, of_z}
use Rattle.std.specs.Prelude.{Result, Err}
use Rattle.std.proofs.lemmas.Result.{err_from_is_err_and}
use Rattle.law_nodes.specs.declared.moves.Move.TheVariants as moves
use Rattle.law_nodes.specs.declared.moves.MoveFault.{MoveFault}
use Rattle.kr_nodes.specs.declared.node.Node.{Node}
use Rattle.kr_nodes.specs.inner.Acting.{AreIdle, MakesSome}
use Rattle.kr_nodes.specs.inner.Copying.{IsCopyFault, LoadsAt, MayCopy}
use Rattle.kr_nodes.proofs.CopyMoves.{copied, no_source, no_target, not_copied}
use Rattle.kr_nodes.proofs.RefusedMoves.{idle_put, some_at}
use Rattle.kr_nodes.proofs.cluster.Cluster.copy.Goals as goal

pub returns-in_err-check_node : goal.returns-in_err-check_node
returns-in_err-check_node g c =
    let cluster = c.args.self.now in
    let fault = c.in_err-check_node.field-0.0 in
    let p = err_from_is_err_and c.from_residual.result c.from_residual.ensures.1 in
    let same : c.from_residual.result ≡ Err fault = p.1 ∙ ap (λ (f : MoveFault). Err f) p.2 in
    subst (λ (x : Result (Unit {0}) MoveFault). MakesSome cluster cluster (moves.Copy c.args.from c.args.to) x) (sym same)
    (no_source c.args.from c.args.to cluster fault c.in_err-check_node.ensures.0 c.in_err-check_node.ensures.1)

pub returns-in_err-check_node-2 : goal.returns-in_err-check_node-2
returns-in_err-check_node-2 g c =
    let cluster = c.args.self.now in
    let fault = c.in_err-check_node-2.field-0.0 in
    let p = err_from_is_err_and c.from_residual-in_err-check_node-2.result c.from_residual-in_err-check_node-2.ensures.1 in
    let same : c.from_residual-in_err-check_node-2.result ≡ Err fault = p.1 ∙ ap (λ (f : MoveFault). Err f) p.2 in
    let source = some_at cluster.nodes.items c.args.from c.in_ok-check_node.ensures in
    subst (λ (x : Result (Unit {0}) MoveFault). MakesSome cluster cluster (moves.Copy c.args.from c.args.to) x) (sym same)
    (no_target c.args.from c.args.to cluster source.0 fault source.1 c.in_err-check_node-2.ensures.0 c.in_err-check_node-2.ensures.1)

pub returns-in_err-end : goal.returns-in_err-end
returns-in_err-end g c =
    let cluster = c.args.self.now in
    let fault = c.in_err-end.field-0.0 in
    let p = err_from_is_err_and c.from_residual-in_err-end.result c.from_residual-in_err-end.ensures.1 in
    let same : c.from_residual-in_err-end.result ≡ Err fault = p.1 ∙ ap (λ (f : MoveFault). Err f) p.2 in
    let source = some_at cluster.nodes.items c.args.from c.in_ok-check_node.ensures in
    subst (λ (x : Result (Unit {0}) MoveFault). MakesSome cluster cluster (moves.Copy c.args.from c.args.to) x) (sym same)
    (not_copied c.args.from c.args.to cluster source.0 fault source.1
    (subst (λ (ns : List Node). IsCopyFault ns c.args.from c.args.to fault) c.deref.ensures.value c.in_err-end.ensures))

pub load_at-requires-clause-idle : goal.load_at-requires-clause-idle
load_at-requires-clause-idle g c =
    let gives = c.in_ok-event.ensures in
    subst AreIdle (sym gives.put) (idle_put c.args.self.now.nodes.items c.args.from gives.after c.requires.idle gives.images.idle)

pub returns : goal.returns
returns g c =
    let cluster = c.args.self.now in
    let between = record cluster { nodes = c.image_at.new.nodes; shared = c.image_at.new.shared } in
    let after = record cluster { nodes = c.load_at.new.nodes; shared = record c.image_at.new.shared { told = c.load_at.new.told } } in
    let end : to_z w64 (of_z w64 c.in_ok-end.end) ≡ c.in_ok-end.end = search rules in
    copied c.args.from c.args.to cluster between after c.in_ok-end.end c.in_ok-end.fed c.in_ok-event.event
    (subst (λ (ns : List Node). MayCopy ns c.args.from c.args.to c.in_ok-end.end c.in_ok-end.fed) c.deref.ensures.value c.in_ok-end.ensures)
    c.in_ok-event.ensures
    (subst (λ (z : ℤ). LoadsAt c.args.to between.nodes.items after.nodes.items c.in_ok-event.event z c.in_ok-end.fed between.shared.told.items after.shared.told.items) end c.in_ok-load_at.ensures)
    refl refl refl refl refl
