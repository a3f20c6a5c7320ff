use Rattle.std.proofs.Common.{◌≡◌, ◌≢◌, ◌∙◌, ℤ, ap, of_z, rules, subst, sym, to_z, w64}
use Rattle.std.specs.Prelude.{FitsSigned, IsSome}
use Rattle.std.proofs.lemmas.Int.{to_z-of_z}
use Rattle.kr_store.specs.Images.{Images, kept_at, marked}
use Rattle.kr_view.specs.Pinned.{log_in}
use Rattle.kr_view.specs.Standing.{IsStandingAt, KeepsMore}
use Rattle.kr_view.proofs.Kept.{goes_back, goes_on_at, goes_on_log, may_go_back, runs_from, stays_at, stays_log}
use Rattle.kr_view.proofs.standing.advance.Goals as goal

pub apply_run-requires : goal.apply_run-requires
apply_run-requires g c = record { runs = runs_from c.args.store.now c.args.end.now c.args.pins.now c.requires.stands }

-- a run that found no memory
pub go_back-requires : goal.go_back-requires
go_back-requires g c = may_go_back c.args.store.now c.args.end.now c.args.pins.now c.requires.stands c.apply_run.new.store c.in_default.ensures.kept

pub returns-in_default-clause-err : goal.returns-in_default-clause-err
returns-in_default-clause-err g c =
    goes_back c.args.store.now c.args.end.now c.args.pins.now c.requires.stands c.apply_run.new.store c.in_default.ensures.kept c.go_back.ensures.valid c.go_back.new.store c.go_back.ensures.back

-- one in which nothing counted
pub returns-then-next-end-clause-ok : goal.returns-then-next-end-clause-ok
returns-then-next-end-clause-ok g c =
    let next = c.in-Ok.next in
    let end = c.args.end.now in
    let pins = c.args.pins.now in
    let fits : FitsSigned w64 next = search rules in
    let fit : FitsSigned w64 end = search rules in
    let same : next ≡ end = sym (to_z-of_z w64 next fits) ∙ ap (to_z w64) c.if-next-end.true ∙ to_z-of_z w64 end fit in
    ap (λ (z : ℤ). log_in c.apply_run.new.store z pins) (to_z-of_z w64 next fits)
    ∙ stays_log c.args.store.now c.apply_run.new.store end next pins c.requires.stands c.args.entries.now c.in-Ok.ensures.ok c.in-Ok.ensures.comes c.in-Ok.ensures.kept same

pub returns-then-next-end-clause-stands : goal.returns-then-next-end-clause-stands
returns-then-next-end-clause-stands g c =
    let next = c.in-Ok.next in
    let end = c.args.end.now in
    let pins = c.args.pins.now in
    let fits : FitsSigned w64 next = search rules in
    let fit : FitsSigned w64 end = search rules in
    let same : next ≡ end = sym (to_z-of_z w64 next fits) ∙ ap (to_z w64) c.if-next-end.true ∙ to_z-of_z w64 end fit in
    subst (λ (z : ℤ). IsStandingAt c.apply_run.new.store z pins) (sym (to_z-of_z w64 next fits))
    (stays_at c.args.store.now c.apply_run.new.store end next pins c.requires.stands c.args.entries.now c.in-Ok.ensures.ok c.in-Ok.ensures.comes c.in-Ok.ensures.kept same)

-- its end was not kept
pub go_back-requires-in-Err : goal.go_back-requires-in-Err
go_back-requires-in-Err g c =
    subst (λ (x : Images). IsSome (kept_at x c.args.end.now)) (sym c.in-Err.ensures.err)
    (may_go_back c.args.store.now c.args.end.now c.args.pins.now c.requires.stands c.apply_run.new.store c.in-Ok.ensures.kept)

pub returns-in-Err-clause-err : goal.returns-in-Err-clause-err
returns-in-Err-clause-err g c =
    let keeps : KeepsMore c.args.store.now c.keep.new.store = subst (λ (x : Images). KeepsMore c.args.store.now x) (sym c.in-Err.ensures.err) c.in-Ok.ensures.kept in
    goes_back c.args.store.now c.args.end.now c.args.pins.now c.requires.stands c.keep.new.store keeps c.go_back-in-Err.ensures.valid c.go_back-in-Err.new.store c.go_back-in-Err.ensures.back

-- or was
pub forget-requires : goal.forget-requires
forget-requires g c =
    let next = c.in-Ok.next in
    let mid = c.apply_run.new.store in
    let pins = c.args.pins.now in
    let fits : FitsSigned w64 next = search rules in
    let round = to_z-of_z w64 next fits in
    let marks : c.keep.new.store ≡ marked mid (to_z w64 (of_z w64 next)) = search rules in
    let made : c.keep.new.store ≡ marked mid next = marks ∙ ap (marked mid) round in
    let other : next ≢ c.args.end.now = λ same. c.if-next-end.false (ap (of_z w64) same) in
    subst (λ (x : Images). IsStandingAt x (to_z w64 (of_z w64 next)) pins) (sym made)
    (subst (λ (z : ℤ). IsStandingAt (marked mid next) z pins) (sym round)
    (goes_on_at c.args.store.now mid c.args.end.now next pins c.requires.stands c.args.entries.now c.in-Ok.ensures.ok c.in-Ok.ensures.comes c.in-Ok.ensures.kept c.in_default-keep.ensures.valid other))

pub returns-clause-ok : goal.returns-clause-ok
returns-clause-ok g c =
    let next = c.in-Ok.next in
    let mid = c.apply_run.new.store in
    let pins = c.args.pins.now in
    let fits : FitsSigned w64 next = search rules in
    let round = to_z-of_z w64 next fits in
    let marks : c.keep.new.store ≡ marked mid (to_z w64 (of_z w64 next)) = search rules in
    let made : c.keep.new.store ≡ marked mid next = marks ∙ ap (marked mid) round in
    let other : next ≢ c.args.end.now = λ same. c.if-next-end.false (ap (of_z w64) same) in
    c.forget.ensures.log
    ∙ ap (λ (x : Images). log_in x (to_z w64 (of_z w64 next)) pins) made
    ∙ ap (λ (z : ℤ). log_in (marked mid next) z pins) round
    ∙ goes_on_log c.args.store.now mid c.args.end.now next pins c.requires.stands c.args.entries.now c.in-Ok.ensures.ok c.in-Ok.ensures.comes c.in-Ok.ensures.kept c.in_default-keep.ensures.valid other
