use Rattle.std.proofs.Common.{◌≡◌, ◌∙◌, ℤ, ap, of_z, rules, subst, sym, to_z, w64}
use Rattle.std.specs.Prelude.{FitsSigned}
use Rattle.std.proofs.lemmas.Int.{to_z-of_z}
use Rattle.kr_view.specs.Pinned.{reached_in}
use Rattle.kr_view.specs.Standing.{ComesTo}
use Rattle.kr_view.proofs.OpenTransactions.{comes_then, keeps_then}
use Rattle.kr_view.proofs.Runs.{run_more}
use Rattle.kr_view.proofs.standing.apply_run.Goals as goal

pub loop-entry-preserved : goal.loop-entry-preserved
loop-entry-preserved g c =
    let before = c.loop-entry.invariant in
    let new = c.apply_entry.new.store in
    let next = c.in_ok-at.at in
    let fits : FitsSigned w64 next = search rules in
    let round : to_z w64 (of_z w64 next) ≡ next = to_z-of_z w64 next fits in
    record {
      left = run_more c.args.entries.now c.loop-entry.entry-index c.entry-item.result _ _ _ c.loop-entry-test.true c.entry-item.is (ap (λ (z : ℤ). reached_in new z) round ∙ c.in_ok-at.ensures.ok) before.left;
      comes = subst (λ (z : ℤ). ComesTo c.args.store.now new c.args.end.now z) (sym round) (comes_then c.args.store.now c.loop-entry.store new c.args.end.now _ next before.comes c.in_ok-at.ensures.comes);
      kept = keeps_then c.args.store.now c.loop-entry.store new before.kept c.in_ok-at.ensures.kept;
    }
