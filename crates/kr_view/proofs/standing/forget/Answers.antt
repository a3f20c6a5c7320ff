use Rattle.std.proofs.Common.{◌≡◌, ◌∙◌, ap, rules, subst, sym, w64}
use Rattle.std.specs.Prelude.{FitsSigned}
use Rattle.std.proofs.lemmas.Int.{to_z-of_z}
use Rattle.kr_store.specs.Images.{Images, forgotten}
use Rattle.kr_view.specs.Pinned.{log_in}
use Rattle.kr_view.specs.Standing.{IsStandingAt}
use Rattle.kr_view.proofs.Kept.{forgets}
use Rattle.kr_view.proofs.standing.forget.Goals as goal

pub returns-clause-log : goal.returns-clause-log
returns-clause-log g c =
    let floor = c.oldest_needed.result in
    let fits : FitsSigned w64 floor = search rules in
    let gone : c.forget_below.new.self ≡ forgotten c.args.store.now floor = c.forget_below.ensures.images ∙ ap (forgotten c.args.store.now) (to_z-of_z w64 floor fits) in
    ap (λ (x : Images). log_in x c.args.end.now c.args.pins.now) gone
    ∙ (forgets c.args.store.now c.args.end.now c.args.pins.now c.requires floor c.oldest_needed.ensures.low c.oldest_needed.ensures.begun).0

pub returns-clause-stands : goal.returns-clause-stands
returns-clause-stands g c =
    let floor = c.oldest_needed.result in
    let fits : FitsSigned w64 floor = search rules in
    let gone : c.forget_below.new.self ≡ forgotten c.args.store.now floor = c.forget_below.ensures.images ∙ ap (forgotten c.args.store.now) (to_z-of_z w64 floor fits) in
    subst (λ (x : Images). IsStandingAt x c.args.end.now c.args.pins.now) (sym gone)
    (forgets c.args.store.now c.args.end.now c.args.pins.now c.requires floor c.oldest_needed.ensures.low c.oldest_needed.ensures.begun).1
