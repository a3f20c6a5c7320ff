use Rattle.std.proofs.Common.{ap, ◌∙◌, rules, w64, ℤ, fold}
use Rattle.std.specs.Prelude.{FitsSigned}
use Rattle.std.proofs.lemmas.Int.{to_z-of_z}
use Rattle.kr_calls.specs.SeatList.{PinnedLog, pinned_with}
use Rattle.kr_view.specs.Pinned.{log_in}
use Rattle.kr_view.proofs.Runs.{run_is_log}
use Rattle.kr_view.proofs.standing.Standing.take_run.Goals as goal

pub returns-clause-ok : goal.returns-clause-ok
returns-clause-ok g c =
    let s = c.self.inside in
    let next = c.in_ok-self-inside.field-0 in
    let fits : FitsSigned w64 next = search rules in
    ap (λ (z : ℤ). log_in c.advance.new.store z s.pins) (to_z-of_z w64 next fits)
    ∙ c.in_ok-self-inside.ensures.ok
    ∙ run_is_log (log_in s.store s.end s.pins) c.args.entries.now c.requires
    ∙ ap (λ (l : PinnedLog). fold pinned_with l c.args.entries.now) c.self.view_is
