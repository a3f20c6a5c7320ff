use Rattle.std.proofs.Common.{ℤ, [], List, of_z, rules, subst, sym, to_z, w64}
use Rattle.std.specs.Prelude.{FitsSigned}
use Rattle.std.proofs.lemmas.Int.{to_z-of_z}
use Rattle.kr_calls.specs.declared.pins.Pin.{Pin}
use Rattle.kr_view.specs.Standing.{IsStandingAt}
use Rattle.kr_view.proofs.Loaded.{loaded_stands}
use Rattle.kr_view.proofs.standing.Standing.take_load.Goals as goal

pub invariant_of-self-2 : goal.invariant_of-self-2
invariant_of-self-2 g c =
    let store = c.in-Some.store in
    let offset = c.args.offset.now in
    let made = rw c.in-Some.is at c.in_ok-store.ensures in
    let fits : FitsSigned w64 offset = search rules in
    subst (λ (pins : List Pin). IsStandingAt store (to_z w64 (of_z w64 offset)) pins) (sym c.new-pins.ensures)
    (subst (λ (z : ℤ). IsStandingAt store z []) (sym (to_z-of_z w64 offset fits)) (loaded_stands store offset made.1 made.2))
