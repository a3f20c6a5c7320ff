-- Each step keeps the queue rule.
use Rattle.std.proofs.Common.{◌≡◌, ◌≢◌, ◌<◌, ◌+◌, ℕ, zero, suc, true, List, [], ◌∷◌, ◌++◌, length, set, All, IsTrue, refl, sym, ap, ◌∙◌, subst, ◌⊎◌, inl, inr, ⊎_elim, append_assoc, length-append, length-set, arith}
use mathlib.Core.Option.{some, some-injective, some-ne-none}
use lib.ListN.{get_elem?}
use Rattle.std.proofs.Math.Seq.{get_or-append_seam}
use Rattle.std.proofs.lemmas.Bool.{and_parts}
use Rattle.std.proofs.lemmas.List.Elements.{All-nil, All-cons, All-append}
use Rattle.crossbeam_queue.specs.Fifo.{Pushes, Pops, Forks, Learns}
use Rattle.crossbeam_queue.proofs.Lists.{at_set}
use Rattle.kr_queue.specs.declared.jobs.Job.{Job}
use Rattle.kr_queue.specs.declared.passes.Role.TheVariants as roles
use Rattle.kr_queue.specs.declared.passes.View.{View}
use Rattle.kr_queue.specs.Jobs.{is_of, of, may_push}
use Rattle.kr_queue.specs.QueueRule.{role_at, IsAllowed, Knows, IsKept, next, after_next}
use Rattle.kr_queue.specs.Steps.{with_pushed, with_popped, Holds, IsPush, IsPop}
use Rattle.kr_queue.proofs.Roles.{at_once, of_more, of_as_many, of_no_other, of_later, more_allowed}

-- what each pass knows, after a step of one of them
known : (F : ℕ → View → Type 0) (views : List View) (port : ℕ) (w : View) → F port w → ((j : ℕ) (u : View) → j ≢ port → get_elem? views j ≡ some u → F j u) → (j : ℕ) (u : View) → get_elem? (set views port w) j ≡ some u → F j u
known F views port w mine others j u at = ⊎_elim (λ (x : (j ≡ port) × (w ≡ u)). subst (λ (y : ℕ × View). F y.0 y.1) (λ i. (sym x.0 i, x.1 i)) mine)
    (λ (x : (j ≢ port) × (get_elem? views j ≡ some u)). others j u x.0 x.1) (at_set views port j w u at)

at_below : (views : List View) (number : ℕ) (v : View) → get_elem? views number ≡ some v → number < length views
at_below [] number v at = absurd (some-ne-none v (sym at))
at_below (w ∷ views) zero v at = omega arith
at_below (w ∷ views) (suc number) v at = let below = at_below views number v at in omega (arith, below)

-- a pass among one more is one of the earlier ones or the new one
at_more : (views : List View) (w v : View) (number : ℕ) → get_elem? (views ++ w ∷ []) number ≡ some v → (get_elem? views number ≡ some v) ⊎ ((number ≡ length views) × (w ≡ v))
at_more [] w v zero at = inr (refl, some-injective w v at)
at_more [] w v (suc number) at = absurd (some-ne-none v (sym at))
at_more (x ∷ views) w v zero at = inl at
at_more (x ∷ views) w v (suc number) at = ⊎_elim inl (λ new. inr (ap suc new.0, new.1)) (at_more views w v number at)

-- ---- a push

pub pushed_kept : (number : ℕ) (v : View) (job : Job) (items : List Job) (views : List View) → IsTrue (may_push v.role job) → IsKept items views → get_elem? views number ≡ some v → IsKept (items ++ job ∷ []) (set views number (with_pushed v job))
pushed_kept number v job items views may kept at =
    let popped = kept.0 in let passes = length views in let all = popped ++ items in let w = with_pushed v job in
    let mine = kept.2 number v at in
    let own : is_of v.role job ≡ true = (and_parts _ _ may).0 in
    let joined : all ++ job ∷ [] ≡ popped ++ (items ++ job ∷ []) = append_assoc popped items (job ∷ []) in
    let as_many : length (set views number w) ≡ passes = length-set views number w in
    let this : IsAllowed passes job = (number, at_below views number v at, subst (λ role. IsTrue (may_push role job)) mine.0 may) in
    let allowed = All-append (IsAllowed passes) all (job ∷ []) kept.1 (All-cons (IsAllowed passes) job [] this (All-nil (IsAllowed passes))) in
    let After : ℕ → View → Type 0 = Knows popped (items ++ job ∷ []) passes in
    let mine_after : After number w = (mine.0, ap (λ l. l ++ job ∷ []) mine.1 ∙ sym (of_more v.role all job own) ∙ ap (of v.role) joined, mine.2) in
    let others_after : (j : ℕ) (u : View) → j ≢ number → get_elem? views j ≡ some u → After j u = λ j u other e.
    let theirs = kept.2 j u e in
    let not_own = of_no_other v.role u.role job (λ same. other (at_once j number (sym theirs.0 ∙ sym same ∙ mine.0))) own in
    (theirs.0, theirs.1 ∙ sym (of_as_many u.role all job not_own) ∙ ap (of u.role) joined, theirs.2) in (
      popped,
      subst (λ n. All (IsAllowed n) (popped ++ (items ++ job ∷ []))) (sym as_many) (subst (All (IsAllowed passes)) joined allowed),
      λ j u e. subst (λ n. Knows popped (items ++ job ∷ []) n j u) (sym as_many) (known After views number w mine_after others_after j u e),
    )

pub pushes : (n number : ℕ) (v : View) (job : Job) → IsTrue (may_push v.role job) → Pushes IsKept n number v job (IsPush v job)
pushes n number v job may = λ items views _ kept at.
    let after = pushed_kept number v job items views may kept at in
    (with_pushed v job, after, (refl, (items, views, number, (kept, at), after)))

-- ---- a pop

pub popped_kept : (number : ℕ) (v : View) (job : Job) (items : List Job) (views : List View) → v.role ≡ roles.Worker → IsKept (job ∷ items) views → get_elem? views number ≡ some v → IsKept items (set views number (with_popped v job))
popped_kept number v job items views is_worker kept at =
    let popped = kept.0 in let passes = length views in let more = popped ++ job ∷ [] in let w = with_popped v job in
    let mine = kept.2 number v at in
    let joined : popped ++ job ∷ items ≡ more ++ items = sym (append_assoc popped (job ∷ []) items) in
    let as_many : length (set views number w) ≡ passes = length-set views number w in
    let After : ℕ → View → Type 0 = Knows more items passes in
    let mine_after : After number w = (mine.0, mine.1 ∙ ap (of v.role) joined, λ worker. (ap (λ l. l ++ job ∷ []) (mine.2 worker).0, (mine.2 worker).1)) in
    let others_after : (j : ℕ) (u : View) → j ≢ number → get_elem? views j ≡ some u → After j u = λ j u other e.
    let theirs = kept.2 j u e in
    (theirs.0, theirs.1 ∙ ap (of u.role) joined, λ worker. absurd (other (at_once j number (sym theirs.0 ∙ worker ∙ sym is_worker ∙ mine.0)))) in (
      more,
      subst (λ n. All (IsAllowed n) (more ++ items)) (sym as_many) (subst (All (IsAllowed passes)) joined kept.1),
      λ j u e. subst (λ n. Knows more items n j u) (sym as_many) (known After views number w mine_after others_after j u e),
    )

pub front_allowed : (passes : ℕ) (popped items : List Job) (job : Job) → All (IsAllowed passes) (popped ++ job ∷ items) → IsAllowed passes job
front_allowed passes popped items job allowed =
    let sum : length (popped ++ job ∷ items) ≡ length popped + suc (length items) = length-append popped (job ∷ items) in
    subst (IsAllowed passes) (get_or-append_seam popped job items job) (allowed (length popped) job (omega (arith, sum)))

pub pops : (number : ℕ) (v : View) → v.role ≡ roles.Worker → Pops IsKept number v (IsPop v)
pops number v is_worker = λ job items views kept at.
    let after = popped_kept number v job items views is_worker kept at in
    let passes : length views ≡ v.passes = sym ((kept.2 number v at).2 is_worker).1 in
    (with_popped v job, after, (refl, subst (λ n. IsAllowed n job) passes (front_allowed (length views) kept.0 items job kept.1), (items, views, number, (kept, at), after)))

pub learns : (number : ℕ) (v : View) → Learns IsKept number v (Holds v)
learns number v = λ items views kept at. (views, number, (kept, at))

-- ---- a new pass

pub forks : (number : ℕ) (v : View) → v.role ≡ roles.Worker → Forks IsKept number v (after_next v) (next v)
forks number v is_worker = λ items views kept at.
    let popped = kept.0 in let passes = length views in let all = popped ++ items in let left = after_next v in let right = next v in
    let mine = kept.2 number v at in
    let made : v.passes ≡ passes = (mine.2 is_worker).1 in
    let rest : List View = set views number left in
    let as_many : length rest ≡ passes = length-set views number left in
    let one_more : length (rest ++ right ∷ []) ≡ passes + 1 = length-append rest (right ∷ []) ∙ ap (λ n. n + 1) as_many in
    let After : ℕ → View → Type 0 = Knows popped items (passes + 1) in
    let left_after : After number left = (mine.0, mine.1, λ worker. ((mine.2 worker).0, ap (λ n. n + 1) made)) in
    let others_after : (j : ℕ) (u : View) → j ≢ number → get_elem? views j ≡ some u → After j u = λ j u other e.
    let theirs = kept.2 j u e in
    (theirs.0, theirs.1, λ worker. absurd (other (at_once j number (sym theirs.0 ∙ worker ∙ sym is_worker ∙ mine.0)))) in
    let below : number < passes = at_below views number v at in
    let right_after : (j : ℕ) → j ≡ passes → After j right = λ j new. (
      ap role_at (made ∙ sym new),
      sym (ap (λ n. of (role_at n) all) made ∙ of_later passes all kept.1),
      λ worker. let none : v.passes ≡ 0 = at_once v.passes 0 worker in absurd (omega (arith, none, made, below)),
    ) in (
      popped,
      subst (λ n. All (IsAllowed n) all) (sym one_more) (more_allowed passes all kept.1),
      λ j u e. subst (λ n. Knows popped items n j u) (sym one_more) (⊎_elim (known After views number left left_after others_after j u)
          (λ new. subst (After j) new.1 (right_after j (new.0 ∙ as_many))) (at_more rest right u j e)),
    )
