use Rattle.std.proofs.Common.{◌≡◌, List, subst, ap}
use Rattle.kr_defs.specs.Image.{Image}
use Rattle.kr_calls.specs.declared.events.Entry.{Entry}
use Rattle.kr_view.specs.Scans.{AnswersAt}
use Rattle.kr_view.specs.Showing.{Showing}
use Rattle.kr_view.specs.Steps.{entries_in}
use Rattle.kr_view.proofs.PinnedPlaces.{answered}
use Rattle.kr_view.proofs.shown.Shown.image_at.Goals as goal

pub returns-clause-answer : goal.returns-clause-answer
returns-clause-answer c =
    let s = c.self.inside in
    subst (λ (list : List Entry). AnswersAt list c.args.place.now (λ image seen. seen ≡ image) c.image_at.result) (ap (λ (x : Showing). x.list) c.self.view_is)
    (answered (entries_in s.history) s.standing c.args.place.now (λ (image : Image). image) c.image_at.result c.self.invariant.standing c.image_at.ensures.image)
