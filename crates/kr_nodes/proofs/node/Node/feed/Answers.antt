use Rattle.std.proofs.Common.{rules, ◌≡◌, ◌∙◌, ap, refl, subst, sym, ℤ, List, w64, to_z, of_z}
use Rattle.std.specs.Prelude.{Result, Err}
use Rattle.std.proofs.lemmas.Result.{err_from_is_err_and}
use Rattle.law_nodes.specs.declared.moves.MoveFault.{MoveFault}
use Rattle.law_nodes.specs.Moves as table
use Rattle.kr_nodes.specs.declared.node.Node.{Node}
use Rattle.kr_nodes.specs.declared.shared.ListBatch.{ListBatch}
use Rattle.kr_nodes.specs.inner.Acting.{Acts, passed}
use Rattle.kr_nodes.specs.inner.Checks.{IsFeedFault, MayFeed}
use Rattle.kr_nodes.specs.inner.Taking.{ReturnsToEnd}
use Rattle.kr_nodes.proofs.Feeds.{feed_acts}
use Rattle.kr_nodes.proofs.RefusedMoves.{feed_refused}
use Rattle.kr_nodes.proofs.node.Node.feed.Goals as goal

pub returns-in_err-batch : goal.returns-in_err-batch
returns-in_err-batch g c =
    let node = c.args.self.now in
    let shared = c.args.shared.now in
    let p = err_from_is_err_and c.from_residual.result c.from_residual.ensures.1 in
    let fault = c.in_err-batch.field-0.0 in
    let same : c.from_residual.result ≡ Err fault = p.1 ∙ ap (λ (f : MoveFault). Err f) p.2 in
    subst (λ (x : Result (Unit {0}) MoveFault). Acts (λ _ r n. table.feed r c.args.number n) c.args.number node node shared shared x) (sym same)
    (feed_refused c.args.number node shared fault (subst (λ (l : List ListBatch). IsFeedFault c.args.number l node fault) c.as_slice.ensures.value c.in_err-batch.ensures))

pub returns : goal.returns
returns g c =
    let node = c.args.self.now in
    let shared = c.args.shared.now in
    let shared' = record shared { told = c.take.new.told } in
    let before : to_z w64 (of_z w64 c.committed-before.result) ≡ node.engine.committed = search rules in
    let passes = c.pass.ensures ∙ ap (λ (z : ℤ). record c.take.new.self { fed = passed z c.take.new.self }) before in
    feed_acts c.args.number node c.take.new.self c.return_to_end.new.self shared shared' c.in_ok-batch.batch.now
    (subst (λ (l : List ListBatch). MayFeed l node c.in_ok-batch.batch.now) c.as_slice.ensures.value c.in_ok-batch.ensures)
    c.in_ok-take.ensures
    (subst (λ (n : Node). ReturnsToEnd n c.return_to_end.new.self) passes c.return_to_end.ensures) refl
