use Rattle.std.proofs.Common.{rules, ◌≡◌, ◌∙◌, ap, refl, subst, ℤ, false, w32, to_z, of_z}
use Rattle.kr_calls.specs.declared.events.Event.{Event}
use Rattle.kr_calls.specs.declared.events.Event.TheVariants as events
use Rattle.kr_nodes.specs.inner.Taking.{NodeTakes}
use Rattle.kr_nodes.proofs.Elections.{depose_acts}
use Rattle.kr_nodes.proofs.node.Node.depose.Goals as goal

pub returns : goal.returns
returns g c =
    let shared = c.args.shared.now in
    let shared' = record shared { told = c.take.new.told } in
    let same : to_z w32 (of_z w32 c.in_ok-epoch.epoch) ≡ c.in_ok-epoch.epoch = search rules in
    let event = c.lost_event-event.ensures ∙ ap (λ (z : ℤ). events.Lost z) same in
    depose_acts c.args.number c.in_ok-epoch.epoch c.args.self.now c.take.new.self c.return_to_end.new.self shared shared' c.in_ok-epoch.ensures
    (subst (λ (e : Event). NodeTakes c.args.number c.args.self.now c.take.new.self false shared.told.items shared'.told.items e) event c.in_ok-take.ensures)
    c.return_to_end.ensures refl
