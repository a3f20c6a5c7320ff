use Rattle.std.proofs.Common.{ap, ◌∙◌, rules, w64}
use Rattle.std.specs.Prelude.{FitsSigned}
use Rattle.std.proofs.lemmas.Int.{to_z-of_z}
use Rattle.kr_calls.specs.SeatList.{end_of}
use Rattle.kr_view.specs.Showing.{Showing}
use Rattle.kr_view.specs.Steps.{entries_in}
use Rattle.kr_view.proofs.PinnedPlaces.{log_end}
use Rattle.kr_view.proofs.shown.Shown.end.Goals as goal

pub returns : goal.returns
returns c =
    let s = c.self.inside in
    let fits : FitsSigned w64 c.end.result = search rules in
    to_z-of_z w64 c.end.result fits
    ∙ c.end.ensures
    ∙ log_end s.standing (entries_in s.history) c.self.invariant.standing
    ∙ ap (λ (x : Showing). end_of x.list) c.self.view_is
