use Rattle.std.proofs.Common.{◌∙◌, ap, refl, subst, ℤ, false, w64}
use Rattle.std.proofs.lemmas.Int.{to_z-of_z}
use Rattle.kr_calls.specs.declared.events.Event.{Event}
use Rattle.kr_calls.specs.declared.events.Event.TheVariants as events
use Rattle.kr_nodes.specs.inner.Taking.{NodeTakes}
use Rattle.kr_nodes.proofs.Asks.{tick_acts}
use Rattle.kr_nodes.proofs.node.Node.tick.Goals as goal

pub returns : goal.returns
returns g c =
    let shared = c.args.shared.now in
    let shared' = record shared { told = c.take.new.told } in
    let event = c.tick_event-event.ensures ∙ ap (λ (z : ℤ). events.Tick z) (to_z-of_z w64 c.args.now c.ranges.now) in
    tick_acts c.args.number c.args.now c.ranges.now c.args.self.now c.take.new.self shared shared'
    (subst (λ (e : Event). NodeTakes c.args.number c.args.self.now c.take.new.self false shared.told.items shared'.told.items e) event c.in_ok-take.ensures) refl
