use Rattle.std.proofs.Common.{◌≡◌, ap, ◌∙◌, sym}
use Rattle.kr_defs.specs.declared.options.Options.{Options}
use Rattle.kr_defs.specs.Image.{Image}
use Rattle.kr_calls.specs.Decide.{query}
use Rattle.kr_calls.specs.SeatList.{image_of}
use Rattle.kr_view.specs.Showing.{Showing}
use Rattle.kr_view.specs.Steps.{entries_in}
use Rattle.kr_view.proofs.PinnedPlaces.{log_image}
use Rattle.kr_view.proofs.shown.Shown.reply.Goals as goal

pub returns-in-Ok-Some : goal.returns-in-Ok-Some
returns-in-Ok-Some c =
    let s = c.self.inside in
    let image : c.store-store.result.now.tip ≡ image_of (entries_in s.history) = c.store-store.ensures ∙ log_image s.standing (entries_in s.history) c.self.invariant.standing in
    ap (λ (x : Showing). query x.options (image_of x.list) c.args.request.now) (sym c.self.view_is)
    ∙ ap (λ (i : Image). query s.options i c.args.request.now) (sym image)
    ∙ ap (λ (o : Options). query o c.store-store.result.now.tip c.args.request.now) (sym c.get.ensures)
    ∙ sym c.in-Ok-Some.ensures
    ∙ c.in-Ok-Some.field-0-is
