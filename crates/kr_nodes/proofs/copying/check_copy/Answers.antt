use Rattle.std.proofs.Common.{rules, w64, to_z, of_z, ◌≡◌, ◌∙◌, ap, subst, sym, inl, inr, ℤ, ℕ, refl, true, false}
use Rattle.std.specs.Prelude.{MatchResult, Result, Err, int_lt}
use Rattle.std.proofs.lemmas.Result.{err_from_is_err_and}
use Rattle.law_nodes.specs.declared.moves.MoveFault.{MoveFault}
use Rattle.law_nodes.specs.declared.moves.MoveFault.TheVariants as faults
use Rattle.kr_nodes.specs.inner.Copying.{IsCopyFault, MayCopy}
use Rattle.kr_nodes.proofs.RefusedMoves.{stands_at}
use Rattle.kr_nodes.proofs.copying.check_copy.Goals as goal

pub returns-in_err-check_standby : goal.returns-in_err-check_standby
returns-in_err-check_standby c =
    let p = err_from_is_err_and c.from_residual.result c.from_residual.ensures.1 in
    let same : c.from_residual.result ≡ Err c.in_err-check_standby.field-0.0 = p.1 ∙ ap (λ (f : MoveFault). Err f) p.2 in
    let is = stands_at c.args.nodes.now c.args.to c.index-nodes-to.result c.requires.to c.index-nodes-to.is in
    subst (λ (x : Result (ℤ × ℕ) MoveFault). MatchResult x (λ found. MayCopy c.args.nodes.now c.args.from c.args.to found.0 found.1) (λ fault. IsCopyFault c.args.nodes.now c.args.from c.args.to fault)) (sym same)
    (inl (record { target = c.index-nodes-to.result; target_is = is; leads = c.in_err-check_standby.ensures }))

pub returns-then-offset-end : goal.returns-then-offset-end
returns-then-offset-end c =
    let from = stands_at c.args.nodes.now c.args.from c.index-nodes-from.result c.requires.from c.index-nodes-from.is in
    let to = stands_at c.args.nodes.now c.args.to c.index-nodes-to.result c.requires.to c.index-nodes-to.is in
    let older : int_lt c.index-nodes-from.result.engine.closed c.index-nodes-to.result.engine.committed ≡ true = search rules in
    let is : faults.OlderImage (to_z w64 (of_z w64 c.closed-offset.result)) (to_z w64 (of_z w64 c.committed-end.result)) ≡ faults.OlderImage c.index-nodes-from.result.engine.closed c.index-nodes-to.result.engine.committed = search rules in
    inr (record { source = c.index-nodes-from.result; target = c.index-nodes-to.result; source_is = from; target_is = to; idle = c.in_ok-check_standby.ensures; older = older; is = is })

pub returns : goal.returns
returns c =
    let from = stands_at c.args.nodes.now c.args.from c.index-nodes-from.result c.requires.from c.index-nodes-from.is in
    let to = stands_at c.args.nodes.now c.args.to c.index-nodes-to.result c.requires.to c.index-nodes-to.is in
    let later : int_lt c.index-nodes-from.result.engine.closed c.index-nodes-to.result.engine.committed ≡ false = search rules in
    let end : to_z w64 (of_z w64 c.closed-offset.result) ≡ c.index-nodes-from.result.engine.closed = search rules in
    record { source = c.index-nodes-from.result; target = c.index-nodes-to.result; source_is = from; target_is = to; idle = c.in_ok-check_standby.ensures; later = later; end_is = end; fed_is = refl }
