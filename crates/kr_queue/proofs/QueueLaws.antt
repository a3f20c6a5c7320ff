-- Each step of the queue keeps its rule.
use Rattle.std.proofs.Common.{◌≡◌, ◌+◌, ℕ, zero, suc, List, [], ◌∷◌, length, All, refl, sym, ap, subst}
use mathlib.Core.Option.{some, some-injective, some-ne-none}
use lib.ListN.{get_elem?}
use Rattle.std.proofs.lemmas.List.Elements.{All-nil}
use Rattle.kr_queue.specs.declared.passes.View.{View}
use Rattle.kr_queue.specs.QueueLaws.{OpeningKeeps, PassKeeps, PopKeeps, PushKeeps}
use Rattle.kr_queue.specs.QueueRule.{IsAllowed, Knows, the_first}
use Rattle.kr_queue.proofs.RuleSteps.{forks, front_allowed, popped_kept, pushed_kept}

knows_none : (number : ℕ) (v : View) → get_elem? (the_first ∷ []) number ≡ some v → Knows [] [] 1 number v
knows_none zero v at = subst (Knows [] [] 1 zero) (some-injective the_first v at) (refl, refl, λ worker. (refl, refl))
knows_none (suc number) v at = absurd (some-ne-none v (sym at))

pub begins : OpeningKeeps
begins = ([], All-nil (IsAllowed 1), knows_none)

pub pushes : PushKeeps
pushes items views number v job moment may = pushed_kept number v job items views may moment.0 moment.1

pub pops : PopKeeps
pops items views number v job moment is_worker =
    let kept = moment.0 in
    let passes : length views ≡ v.passes = sym ((kept.2 number v moment.1).2 is_worker).1 in (
      popped_kept number v job items views is_worker kept moment.1,
      subst (λ n. IsAllowed n job) passes (front_allowed (length views) kept.0 items job kept.1),
    )

pub gives : PassKeeps
gives items views number v moment is_worker = forks number v is_worker items views moment.0 moment.1
