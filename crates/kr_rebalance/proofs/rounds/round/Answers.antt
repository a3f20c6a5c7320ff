use Rattle.std.proofs.Common.{rules, subst, w64}
use Rattle.std.specs.Prelude.{FitsSigned}
use Rattle.std.proofs.lemmas.Int.{to_z-of_z}
use Rattle.kr_calls.specs.declared.events.Event.{Event}
use Rattle.kr_model.specs.Engine.{IsStep}
use Rattle.kr_rebalance.proofs.RoundSteps.{balanced, on_ok_so}
use Rattle.kr_rebalance.proofs.rounds.round.Goals as goal

pub returns-clause-balanced : goal.returns-clause-balanced
returns-clause-balanced g c =
    let fits : FitsSigned w64 c.args.now = search rules in
    let event = rw (to_z-of_z w64 c.args.now fits) at c.in_ok-event.ensures in
    on_ok_so c.step.result (λ step. balanced c.args.engine.now c.step.new.self c.args.client c.args.percent c.args.now c.rounds_balance.ensures c.records_have_meanings.ensures c.look_at_image.ensures c.requires.sound c.requires.leads c.requires.low (subst (λ (event : Event). IsStep c.args.engine.now c.step.new.self event) event step)) c.step.ensures.step
