use Rattle.std.proofs.Common.{◌∙◌, ℤ, pos, ap, rules, subst, w64}
use Rattle.std.specs.Prelude.{FitsSigned}
use Rattle.std.proofs.lemmas.Int.{to_z-of_z}
use Rattle.kr_calls.specs.declared.events.Event.{Event}
use Rattle.kr_calls.specs.declared.events.Event.TheVariants as events
use Rattle.kr_leaders.specs.inner.Engines.{IsAfterEvent}
use Rattle.kr_leaders.proofs.Beginnings.{leads}
use Rattle.kr_leaders.proofs.controller.lead_from.Goals as goal

pub returns : goal.returns
returns g c =
    let e = c.in_ok-engine.ensures in
    let fits : FitsSigned w64 c.args.offset = search rules in
    let lead = ap (λ (z : ℤ). events.Lead (pos 1) z (pos 0)) (to_z-of_z w64 c.args.offset fits) in
    let led = subst (λ (event : Event). IsAfterEvent c.take.new.engine c.take-2.new.engine event) lead c.in_ok-take-2.ensures in
    leads c.in_ok-engine.engine c.take.new.engine c.take-2.new.engine c.args.bytes c.args.offset c.args.store.tip (e.options ∙ c.in_ok-options.ensures.options) e.stands c.in_ok-take.ensures led
    (c.images.ensures.read c.args.offset c.args.store.tip c.args.bytes c.requires.image) c.requires.image.natural c.requires.near
