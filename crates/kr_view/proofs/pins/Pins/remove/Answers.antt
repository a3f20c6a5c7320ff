use Rattle.std.proofs.Common.{List, filter, not, rules, ap, ◌∙◌}
use Rattle.std.proofs.lemmas.Fn.{filter_same}
use Rattle.kr_calls.specs.declared.pins.Pin.{Pin}
use Rattle.kr_calls.specs.SeatList.{is_same_pin}
use Rattle.kr_view.proofs.pins.Pins.remove.Goals as goal

pub returns : goal.returns
returns c =
    let others = λ (other : Pin). not (is_same_pin c.args.pin.now other) in
    filter_same _ others _ (λ x b f' k. search rules) _ _ c.retain.ensures.filtered ∙ ap (λ (pins : List Pin). filter others pins) c.self.view_is
