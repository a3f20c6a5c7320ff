use Rattle.std.proofs.Common.{◌∙◌, ap, subst, ℤ, w64}
use Rattle.std.proofs.lemmas.Int.{to_z-of_z}
use Rattle.kr_nodes.specs.declared.node.Node.{Node}
use Rattle.kr_nodes.specs.inner.Acting.{skipped}
use Rattle.kr_nodes.specs.inner.Taking.{ReturnsToEnd}
use Rattle.kr_nodes.proofs.Copies.{loads}
use Rattle.kr_nodes.proofs.node.Node.load.Goals as goal

pub returns : goal.returns
returns g c =
    let skips = c.skip_to.ensures ∙ ap (λ (z : ℤ). record c.take.new.self { fed = skipped z c.args.fed c.take.new.self }) (to_z-of_z w64 c.args.end c.ranges.end) in
    loads c.args.number c.args.self.now c.take.new.self c.return_to_end.new.self c.args.event.now c.args.end c.args.fed _ _ c.in_ok-take.ensures
    (subst (λ (n : Node). ReturnsToEnd n c.return_to_end.new.self) skips c.return_to_end.ensures)
