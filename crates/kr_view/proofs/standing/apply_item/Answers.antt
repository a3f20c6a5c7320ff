use Rattle.std.proofs.Common.{◌≡◌, ◌∙◌, ◌&&◌, ℤ, pos, ap, of_z, rules, subst, sym, to_z, true, w64}
use Rattle.std.specs.Prelude.{◌+ℤ◌, int_lt, FitsSigned}
use Rattle.std.specs.Ordering.{int_eq}
use Rattle.std.proofs.lemmas.Int.{to_z-of_z}
use Rattle.kr_defs.specs.declared.limits.TheConstants.{PLACES_END}
use Rattle.kr_view.specs.Standing.{ComesTo}
use Rattle.kr_view.proofs.OpenTransactions.{done_comes, done_keeps, stays_there}
use Rattle.kr_view.proofs.standing.apply_item.Goals as goal

pub returns-in-Ok-clause-comes : goal.returns-in-Ok-clause-comes
returns-in-Ok-clause-comes g c =
    let before = c.args.store.now in
    let after = c.apply_at.new.store in
    let place = c.args.place.now in
    let is : (int_eq place c.args.end.now && int_lt place PLACES_END) ≡ true = sym c.counts.ensures ∙ c.if-not-counts.false in
    let fits : FitsSigned w64 place = search rules in
    let next : FitsSigned w64 (place +ℤ pos 1) = search rules in
    let there : to_z w64 (of_z w64 (to_z w64 (of_z w64 place) +ℤ pos 1)) ≡ place +ℤ pos 1 = ap (λ (z : ℤ). to_z w64 (of_z w64 (z +ℤ pos 1))) (to_z-of_z w64 place fits) ∙ to_z-of_z w64 (place +ℤ pos 1) next in
    subst (λ (z : ℤ). ComesTo before after c.args.end.now z) (sym there) (done_comes before after c.args.end.now place c.args.item.now c.requires.runs is c.in-Ok.ensures.valid c.in-Ok.ensures.applied)

pub returns-in-Ok-clause-kept : goal.returns-in-Ok-clause-kept
returns-in-Ok-clause-kept g c =
    let is : (int_eq c.args.place.now c.args.end.now && int_lt c.args.place.now PLACES_END) ≡ true = sym c.counts.ensures ∙ c.if-not-counts.false in
    done_keeps c.args.store.now c.apply_at.new.store c.args.end.now c.args.place.now c.args.item.now c.requires.runs is c.in-Ok.ensures.valid c.in-Ok.ensures.applied

pub returns-in-Err-IllFormed-clause-comes : goal.returns-in-Err-IllFormed-clause-comes
returns-in-Err-IllFormed-clause-comes g c =
    let before = c.args.store.now in
    let after = c.apply_at.new.store in
    let end = c.args.end.now in
    let failed = rw c.in-Err-IllFormed.field-0-is at c.in-Err-IllFormed.ensures.applied in
    let fits : FitsSigned w64 end = search rules in
    subst (λ (z : ℤ). ComesTo before after end z) (sym (to_z-of_z w64 end fits)) (stays_there before after end failed.2 c.requires.runs)
