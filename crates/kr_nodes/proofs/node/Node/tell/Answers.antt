use Rattle.std.proofs.Common.{rules, ◌≡◌, ◌∙◌, ap, refl, subst, sym, ℤ, false, w32, w64, to_z, of_z}
use Rattle.std.specs.Prelude.{Ok}
use Rattle.kr_calls.specs.declared.events.Event.{Event}
use Rattle.kr_calls.specs.declared.events.Event.TheVariants as events
use Rattle.law_nodes.specs.Moves as table
use Rattle.kr_nodes.specs.declared.node.Node.{Node}
use Rattle.kr_nodes.specs.inner.Acting.{Acts, told_fed}
use Rattle.kr_nodes.specs.inner.Taking.{NodeTakes}
use Rattle.kr_nodes.proofs.Tellings.{tell_acts}
use Rattle.kr_nodes.proofs.node.Node.tell.Goals as goal

pub returns : goal.returns
returns g c =
    let node = c.args.self.now in
    let shared = c.args.shared.now in
    let shared' = record shared { told = c.take.new.told } in
    let epoch : to_z w32 (of_z w32 c.in_ok-epoch.epoch) ≡ c.in_ok-epoch.epoch = search rules in
    let end : to_z w64 (of_z w64 node.settled) ≡ node.settled = search rules in
    let event = c.commit_event-event.ensures ∙ (ap (λ (z : ℤ). events.Commit z (to_z w64 (of_z w64 node.settled))) epoch ∙ ap (λ (z : ℤ). events.Commit c.in_ok-epoch.epoch z) end) in
    let after = c.catch_up.ensures ∙ ap (λ (z : ℤ). record c.take.new.self { fed = told_fed z c.take.new.self }) end in
    subst (λ (n : Node). Acts (λ options r m. table.tell options r c.args.number m) c.args.number node n shared shared' (Ok tt)) (sym after)
    (tell_acts c.args.number c.in_ok-epoch.epoch node c.take.new.self shared shared' c.in_ok-epoch.ensures
    (subst (λ (e : Event). NodeTakes c.args.number node c.take.new.self false shared.told.items shared'.told.items e) event c.in_ok-take.ensures) refl)
