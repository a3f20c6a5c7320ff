-- The passes of clients, one after the other.
use Rattle.std.proofs.Common.{◌≡◌, ◌<◌, ◌≤◌, ◌+◌, ℕ, suc, List, [], ◌∷◌, ◌++◌, length, slice_index_or, sym, ap, ◌∙◌, subst, ⊎_elim, length-append, arith}
use Rattle.std.proofs.Math.Seq.{get_or-append_seam}
use Rattle.std.proofs.lemmas.Bool.{cases_lt}
use Rattle.std.proofs.lemmas.List.{get_or_append_left}
use Rattle.kr_queue.specs.declared.passes.Pass.{Pass}
use Rattle.kr_queue.specs.declared.passes.Role.TheVariants as roles
use Rattle.kr_queue.specs.declared.queue.Queue.{Queue}
use Rattle.kr_queue.specs.QueueRule.{role_at, a_pass}
use Rattle.kr_queue.specs.Passes.{view, IsPassOf, AreClients}

-- behind the worker's and the link's
pub client_at : (n : ℕ) → role_at (n + 2) ≡ roles.Client (n + 1)
client_at n = let e : n + 2 ≡ suc (suc n) = omega arith in let f : suc n ≡ n + 1 = omega arith in ap role_at e ∙ ap roles.Client f

pub one_more : (queue : Queue) (passes : List Pass) (p : Pass) (n : ℕ) → length passes ≡ n → AreClients queue passes → IsPassOf queue p → view p ≡ a_pass (role_at (n + 2)) 0 → AreClients queue (passes ++ p ∷ [])
one_more queue passes p n count clients own new k d lt =
    let Fits : ℕ → Pass → Type 0 = λ k q. IsPassOf queue q × (view q ≡ a_pass (roles.Client (k + 1)) 0) in
    ⊎_elim
    (λ (before : k < length passes). subst (Fits k) (sym (get_or_append_left passes (p ∷ []) d k before)) (clients k d before))
    (λ (behind : length passes ≤ k). let sum = length-append passes (p ∷ []) in let last : length passes ≡ k = omega (arith, lt, sum, behind) in
    subst (λ k. Fits k (slice_index_or (passes ++ p ∷ []) k d)) last
    (subst (Fits (length passes)) (sym (get_or-append_seam passes p [] d)) (own, new ∙ ap (λ role. a_pass role 0) (client_at n ∙ ap (λ m. roles.Client (m + 1)) (sym count)))))
    (cases_lt k (length passes))

-- the last one by itself
pub one_less : (queue : Queue) (passes : List Pass) (p : Pass) → AreClients queue (passes ++ p ∷ []) → AreClients queue passes × IsPassOf queue p × (view p ≡ a_pass (roles.Client (length passes + 1)) 0)
one_less queue passes p clients =
    let Fits : ℕ → Pass → Type 0 = λ k q. IsPassOf queue q × (view q ≡ a_pass (roles.Client (k + 1)) 0) in
    let sum = length-append passes (p ∷ []) in
    let last : Fits (length passes) p = subst (Fits (length passes)) (get_or-append_seam passes p [] p) (clients (length passes) p (omega (arith, sum))) in
    ((λ k d lt. subst (Fits k) (get_or_append_left passes (p ∷ []) d k lt) (clients k d (omega (arith, sum, lt)))), last.0, last.1)
