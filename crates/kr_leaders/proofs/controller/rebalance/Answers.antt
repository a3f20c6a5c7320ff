use Rattle.std.proofs.Common.{◌∙◌, ℤ, pos, ap, subst, w64}
use Rattle.std.proofs.lemmas.Int.{to_z-of_z}
use Rattle.std.proofs.lemmas.Result.{on_ok_weaker}
use Rattle.kr_calls.specs.declared.events.Event.{Event}
use Rattle.kr_calls.specs.declared.events.Event.TheVariants as events
use Rattle.kr_leaders.specs.inner.Engines.{IsAfterEvent}
use Rattle.kr_leaders.proofs.Rounds.{commits, is_leading, is_near}
use Rattle.kr_leaders.proofs.controller.rebalance.Goals as goal

pub round-requires-clause-leads : goal.round-requires-clause-leads
round-requires-clause-leads g c = let l = c.requires in is_leading c.args.engine.now l.offset l.image l.leads

pub round-requires-clause-low : goal.round-requires-clause-low
round-requires-clause-low g c = let l = c.requires in is_near c.args.engine.now l.offset l.image l.leads

pub returns-clause-commits : goal.returns-clause-commits
returns-clause-commits g c =
    let commit = ap (λ (z : ℤ). events.Commit (pos 1) z) (to_z-of_z w64 c.tip.result (record { sfits = c.tip.type_inv }) ∙ c.tip.ensures) in
    on_ok_weaker c.take.result
    (λ t offset image l.
    commits c.args.engine.now c.round.new.engine c.drop_outputs.new.engine c.take.new.engine c.args.percent offset image c.records_have_meanings.ensures l c.in_ok-round.ensures.step c.drop_outputs.ensures
    (subst (λ (event : Event). IsAfterEvent c.drop_outputs.new.engine c.take.new.engine event) commit t))
    c.take.ensures
