use Rattle.std.proofs.Common.{◌∙◌, ap, refl, subst, ℤ, Bool, w64}
use Rattle.std.proofs.lemmas.Int.{to_z-of_z}
use Rattle.kr_calls.specs.declared.events.Event.{Event}
use Rattle.kr_calls.specs.declared.events.Event.TheVariants as events
use Rattle.kr_calls.specs.declared.calls.Ask.TheVariants as asks
use Rattle.kr_nodes.specs.inner.Taking.{NodeTakes}
use Rattle.kr_nodes.proofs.Asks.{ask_acts}
use Rattle.kr_nodes.proofs.node.Node.ask.Goals as goal

pub returns : goal.returns
returns g c =
    let shared = c.args.shared.now in
    let shared' = record shared { told = c.take.new.told } in
    let event = c.request_event-event.ensures ∙ ap (λ (z : ℤ). events.Request c.args.client z (asks.Call c.args.call)) (to_z-of_z w64 c.args.now c.ranges.now) in
    ask_acts c.args.number c.args.client c.args.now c.args.call c.requires.write c.ranges.now c.args.self.now c.take.new.self shared shared'
    (subst (λ (b : Bool). NodeTakes c.args.number c.args.self.now c.take.new.self b shared.told.items shared'.told.items (events.Request c.args.client c.args.now (asks.Call c.args.call))) c.decides-is_decided.ensures
    (subst (λ (e : Event). NodeTakes c.args.number c.args.self.now c.take.new.self c.decides-is_decided.result shared.told.items shared'.told.items e) event c.in_ok-take.ensures)) refl
