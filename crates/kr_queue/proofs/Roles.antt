-- Each job is of one role at most, and each role stands at one number.
use Rattle.std.proofs.Common.{◌≡◌, ◌≢◌, ◌<◌, ◌+◌, ℕ, zero, suc, true, false, true≢false, cond, List, [], ◌∷◌, ◌++◌, slice_index_or, All, refl, sym, ap, ◌∙◌, append-nil, arith}
use Rattle.std.proofs.lemmas.Bool.{and_parts, eqb-true, false_from_ne_true}
use Rattle.std.proofs.lemmas.List.Elements.{All-tail, All-head, filter-append}
use Rattle.kr_queue.specs.declared.jobs.Job.{Job}
use Rattle.kr_queue.specs.declared.jobs.Job.TheVariants as jobs
use Rattle.kr_queue.specs.declared.passes.Role.{Role}
use Rattle.kr_queue.specs.declared.passes.Role.TheVariants as roles
use Rattle.kr_queue.specs.Jobs.{is_of, of}
use Rattle.kr_queue.specs.QueueRule.{role_at, IsAllowed}

abbrev number_of : Role → ℕ
number_of roles.Worker = 0
number_of roles.Link = 1
number_of (roles.Client seat) = suc seat

number_at : (n : ℕ) → number_of (role_at n) ≡ n
number_at zero = refl
number_at (suc zero) = refl
number_at (suc (suc n)) = refl

-- each role stands at one number
pub at_once : (i j : ℕ) → role_at i ≡ role_at j → i ≡ j
at_once i j same = sym (number_at i) ∙ ap number_of same ∙ number_at j

-- each job is of one role at most
pub of_one : (role other : Role) (job : Job) → is_of role job ≡ true → is_of other job ≡ true → role ≡ other
of_one roles.Worker other (jobs.Link event) a b = absurd (true≢false (sym a))
of_one roles.Worker other (jobs.Stop number) a b = absurd (true≢false (sym a))
of_one roles.Worker other (jobs.Write own ticket floor call) a b = absurd (true≢false (sym a))
of_one roles.Worker other (jobs.Pin own ticket floor) a b = absurd (true≢false (sym a))
of_one roles.Worker other (jobs.Unpin own ticket floor place) a b = absurd (true≢false (sym a))
of_one roles.Link roles.Worker (jobs.Link event) a b = absurd (true≢false (sym b))
of_one roles.Link roles.Worker (jobs.Stop number) a b = absurd (true≢false (sym b))
of_one roles.Link roles.Link (jobs.Link event) a b = refl
of_one roles.Link roles.Link (jobs.Stop number) a b = refl
of_one roles.Link (roles.Client seat) (jobs.Link event) a b = absurd (true≢false (sym b))
of_one roles.Link (roles.Client seat) (jobs.Stop number) a b = absurd (true≢false (sym b))
of_one roles.Link other (jobs.Write own ticket floor call) a b = absurd (true≢false (sym a))
of_one roles.Link other (jobs.Pin own ticket floor) a b = absurd (true≢false (sym a))
of_one roles.Link other (jobs.Unpin own ticket floor place) a b = absurd (true≢false (sym a))
of_one (roles.Client seat) other (jobs.Link event) a b = absurd (true≢false (sym a))
of_one (roles.Client seat) other (jobs.Stop number) a b = absurd (true≢false (sym a))
of_one (roles.Client seat) roles.Worker (jobs.Write own ticket floor call) a b = absurd (true≢false (sym b))
of_one (roles.Client seat) roles.Worker (jobs.Pin own ticket floor) a b = absurd (true≢false (sym b))
of_one (roles.Client seat) roles.Worker (jobs.Unpin own ticket floor place) a b = absurd (true≢false (sym b))
of_one (roles.Client seat) roles.Link (jobs.Write own ticket floor call) a b = absurd (true≢false (sym b))
of_one (roles.Client seat) roles.Link (jobs.Pin own ticket floor) a b = absurd (true≢false (sym b))
of_one (roles.Client seat) roles.Link (jobs.Unpin own ticket floor place) a b = absurd (true≢false (sym b))
of_one (roles.Client seat) (roles.Client other) (jobs.Write own ticket floor call) a b = ap roles.Client (sym (eqb-true own seat a) ∙ eqb-true own other b)
of_one (roles.Client seat) (roles.Client other) (jobs.Pin own ticket floor) a b = ap roles.Client (sym (eqb-true own seat a) ∙ eqb-true own other b)
of_one (roles.Client seat) (roles.Client other) (jobs.Unpin own ticket floor place) a b = ap roles.Client (sym (eqb-true own seat a) ∙ eqb-true own other b)

pub of_no_other : (role other : Role) (job : Job) → role ≢ other → is_of role job ≡ true → is_of other job ≡ false
of_no_other role other job differs own = false_from_ne_true (is_of other job) (λ theirs. differs (of_one role other job own theirs))

-- where no job is of the role, its jobs are none
pub of_none : (role : Role) (jobs : List Job) → All (λ job. is_of role job ≡ false) jobs → of role jobs ≡ []
of_none role [] none = refl
of_none role (job ∷ jobs) none = ap (λ b. cond b (job ∷ of role jobs) (of role jobs)) (All-head (λ job. is_of role job ≡ false) job jobs none) ∙ of_none role jobs (All-tail (λ job. is_of role job ≡ false) job jobs none)

pub of_more : (role : Role) (jobs : List Job) (job : Job) → is_of role job ≡ true → of role (jobs ++ job ∷ []) ≡ of role jobs ++ job ∷ []
of_more role jobs job own = filter-append (is_of role) jobs (job ∷ []) ∙ ap (λ b. of role jobs ++ cond b (job ∷ []) []) own

pub of_as_many : (role : Role) (jobs : List Job) (job : Job) → is_of role job ≡ false → of role (jobs ++ job ∷ []) ≡ of role jobs
of_as_many role jobs job not_own = filter-append (is_of role) jobs (job ∷ []) ∙ ap (λ b. of role jobs ++ cond b (job ∷ []) []) not_own ∙ append-nil (of role jobs)

-- no job is of a role that has no pass yet
pub of_later : (passes : ℕ) (jobs : List Job) → All (IsAllowed passes) jobs → of (role_at passes) jobs ≡ []
of_later passes jobs allowed = of_none (role_at passes) jobs (λ k d lt. let a = allowed k d lt in
    of_no_other (role_at a.0) (role_at passes) (slice_index_or jobs k d) (λ same. let e : a.0 ≡ passes = at_once a.0 passes same in let less : a.0 < passes = a.1 in absurd (omega (arith, e, less)))
    (and_parts _ _ a.2).0)

pub more_allowed : (passes : ℕ) (jobs : List Job) → All (IsAllowed passes) jobs → All (IsAllowed (passes + 1)) jobs
more_allowed passes jobs allowed = λ k d lt. let a = allowed k d lt in let less : a.0 < passes = a.1 in (a.0, omega (arith, less), a.2)
