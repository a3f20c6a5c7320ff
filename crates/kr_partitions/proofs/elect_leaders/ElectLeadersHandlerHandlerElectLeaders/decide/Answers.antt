use Rattle.std.proofs.Common.{◌≡◌, ◌∙◌, ap, sym, true, pos, w64, to_z, of_z, arith}
use Rattle.std.proofs.lemmas.Int.{to_z-of_z}
use Rattle.kr_calls.specs.Deciding.{Work}
use Rattle.kr_calls.specs.ElectLeaders as elect_leaders
use Rattle.kr_partitions.proofs.GroupedElections.{by_groups}
use Rattle.kr_partitions.proofs.elect_leaders.ElectLeadersHandlerHandlerElectLeaders.decide.Given as given
use Rattle.kr_partitions.proofs.elect_leaders.ElectLeadersHandlerHandlerElectLeaders.decide.Goals as goal

its_place : (g : given.Over) (c : goal.After-drop-groups-inside-2 g) → to_z w64 (of_z w64 c.args.context.now.place) ≡ c.args.context.now.place
its_place g c = to_z-of_z w64 c.args.context.now.place (record { sfits = omega (arith, c.requires.here.natural, c.requires.here.low) })

pub returns-clause-records : goal.returns-clause-records
returns-clause-records g c =
    let after = rw (its_place g c, c.new-rule.ensures.options, c.new-rule.ensures.kind, c.as_slice-groups.ensures, c.in_ok-groups.ensures, c.tip.ensures) at c.in_ok-records.ensures.after in
    rw (by_groups c.args.context.now.options.now (g.S.Store.images c.args.store.now).tip c.args.context.now.place c.args.request.now (sym c.is_kind.ensures ∙ c.if-not-is_kind.false)) (ap (λ (w : Work). w.records) after)

pub returns-clause-reply : goal.returns-clause-reply
returns-clause-reply g c =
    let answers = rw (its_place g c, c.new-rule.ensures.options, c.new-rule.ensures.kind, c.as_slice-groups.ensures, c.in_ok-groups.ensures, c.tip.ensures) at c.in_ok-records.ensures.answers in
    rw (by_groups c.args.context.now.options.now (g.S.Store.images c.args.store.now).tip c.args.context.now.place c.args.request.now (sym c.is_kind.ensures ∙ c.if-not-is_kind.false)) (c.reply_of-2.ensures ∙ ap (elect_leaders.reply_of (pos 0)) (c.in_ok-results.ensures ∙ ap (elect_leaders.shown c.args.request.now.topics) answers))

pub returns-clause-image : goal.returns-clause-image
returns-clause-image g c =
    let after = rw (its_place g c, c.new-rule.ensures.options, c.new-rule.ensures.kind, c.as_slice-groups.ensures, c.in_ok-groups.ensures, c.tip.ensures) at c.in_ok-records.ensures.after in
    rw (by_groups c.args.context.now.options.now (g.S.Store.images c.args.store.now).tip c.args.context.now.place c.args.request.now (sym c.is_kind.ensures ∙ c.if-not-is_kind.false)) (ap (λ (w : Work). w.image) after)
