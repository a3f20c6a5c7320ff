use Rattle.std.proofs.Common.{◌≡◌, true, sym, ap, ◌∙◌}
use Rattle.std.specs.Prelude.{Some}
use Rattle.kr_calls.specs.SeatList.{PinnedLog, is_place_kept}
use Rattle.kr_view.specs.Pinned.{kept_image_at, log_in}
use Rattle.kr_view.proofs.PinnedPlaces.{has_kept}
use Rattle.kr_view.proofs.standing.Standing.image_at.Goals as goal

pub unreachable-requires : goal.unreachable-requires
unreachable-requires c =
    let s = c.self.inside in
    let place = c.args.place.now in
    let kept : is_place_kept (log_in s.store s.end s.pins) place ≡ true = ap (λ (l : PinnedLog). is_place_kept l place) c.self.view_is ∙ sym c.keeps.ensures ∙ c.if-not-keeps.false in
    let there = has_kept s.store s.end s.pins place c.self.invariant kept in
    absurd (rw (c.at_epoch.ensures, there.at) at c.in-Err.ensures)

pub returns-clause-image : goal.returns-clause-image
returns-clause-image c =
    let s = c.self.inside in
    let place = c.args.place.now in
    let kept : is_place_kept (log_in s.store s.end s.pins) place ≡ true = ap (λ (l : PinnedLog). is_place_kept l place) c.self.view_is ∙ sym c.keeps.ensures ∙ c.if-not-keeps.false in
    let there = has_kept s.store s.end s.pins place c.self.invariant kept in
    ap (λ (l : PinnedLog). kept_image_at l place) (sym c.self.view_is) ∙ there.is ∙ ap (λ image. Some image) (sym (rw (c.at_epoch.ensures, there.at) at c.in-Ok.ensures))
