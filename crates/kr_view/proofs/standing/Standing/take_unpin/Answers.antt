use Rattle.std.proofs.Common.{ap, ◌∙◌}
use Rattle.kr_calls.specs.SeatList.{PinnedLog, without_pin}
use Rattle.kr_view.proofs.PinnedPlaces.{unpin_at, unpin_log}
use Rattle.kr_view.proofs.standing.Standing.take_unpin.Goals as goal

pub forget-requires : goal.forget-requires
forget-requires g c =
    let s = c.self.inside in
    unpin_at s.store s.end s.pins c.remove.new.self c.args.pin.now c.self.invariant c.remove.ensures

pub returns : goal.returns
returns g c =
    let s = c.self.inside in
    c.forget.ensures.log
    ∙ unpin_log s.store s.end s.pins c.remove.new.self c.args.pin.now c.self.invariant c.remove.ensures
    ∙ ap (λ (l : PinnedLog). record l { pinned = without_pin l.pinned c.args.pin.now }) c.self.view_is
