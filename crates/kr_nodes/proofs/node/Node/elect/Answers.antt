use Rattle.std.proofs.Common.{rules, ◌≡◌, ◌∙◌, ap, refl, subst, ℤ, false, w32, w64, to_z, of_z, if◌then◌else◌}
use Rattle.std.specs.Prelude.{is_some}
use Rattle.std.proofs.lemmas.Int.{to_z-of_z}
use Rattle.kr_calls.specs.declared.events.Event.{Event}
use Rattle.kr_calls.specs.declared.events.Event.TheVariants as events
use Rattle.kr_nodes.specs.inner.Checks.{MayElect}
use Rattle.kr_nodes.specs.inner.Taking.{NodeTakes}
use Rattle.kr_nodes.proofs.Elections.{elect_acts}
use Rattle.kr_nodes.proofs.node.Node.elect.Goals as goal

pub returns : goal.returns
returns g c =
    let shared = c.args.shared.now in
    let shared' = record shared { told = c.take.new.told } in
    let epoch = to_z-of_z w32 c.args.epoch c.ranges.epoch in
    let next : to_z w64 (of_z w64 c.in_ok-next.next) ≡ c.in_ok-next.next = search rules in
    let event =
    c.lead_event-event.ensures
    ∙ (ap (λ (z : ℤ). events.Lead z (to_z w64 (of_z w64 c.in_ok-next.next)) (to_z w64 (of_z w64 c.args.now))) epoch
    ∙ (ap (λ (z : ℤ). events.Lead c.args.epoch z (to_z w64 (of_z w64 c.args.now))) next ∙ ap (λ (z : ℤ). events.Lead c.args.epoch c.in_ok-next.next z) (to_z-of_z w64 c.args.now c.ranges.now))) in
    let noted = c.note_election.ensures ∙ ap (λ (z : ℤ). record shared' { elected = if is_some c.take.new.self.engine.leading then z else shared'.elected }) epoch in
    elect_acts c.args.number c.args.epoch c.args.now c.in_ok-next.next c.ranges.now c.args.self.now c.return_to_end.new.self c.take.new.self shared shared' c.note_election.new.shared
    (subst (λ (z : ℤ). MayElect z shared c.args.self.now c.in_ok-next.next) epoch c.in_ok-next.ensures)
    c.return_to_end.ensures
    (subst (λ (e : Event). NodeTakes c.args.number c.return_to_end.new.self c.take.new.self false shared.told.items shared'.told.items e) event c.in_ok-take.ensures)
    refl noted
