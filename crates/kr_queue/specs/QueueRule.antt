-- The rule that holds of the queue at each step of each thread. This project's own.
use Rattle.std.specs.Prelude.{◌≡◌, ℕ, zero, suc, ◌+◌, ◌<◌, List, [], ◌++◌, length, All, IsTrue}
use mathlib.Core.Option.{some}
use lib.ListN.{get_elem?}
use Rattle.kr_queue.specs.declared.jobs.Job.{Job}
use Rattle.kr_queue.specs.declared.passes.Role.{Role}
use Rattle.kr_queue.specs.declared.passes.Role.TheVariants as roles
use Rattle.kr_queue.specs.declared.passes.View.{View}
use Rattle.kr_queue.specs.Jobs.{of, may_push}

-- whose the passes are, by their numbers: first the worker's, then the link's, then those of the seats 1, 2 and so on
abbrev pub role_at : ℕ → Role
role_at zero = roles.Worker
role_at (suc zero) = roles.Link
role_at (suc (suc n)) = roles.Client (suc n)

-- one of the passes may push the job
abbrev pub IsAllowed : ℕ → Job → Type 0
IsAllowed passes job = (number : ℕ) × (number < passes) × IsTrue (may_push (role_at number) job)

-- a pass knows what it pushed: its jobs among those that were popped, and then those that the queue holds. The worker knows what was popped, and how many passes there are
abbrev pub Knows : List Job → List Job → ℕ → ℕ → View → Type 0
Knows popped items passes number v =
    (v.role ≡ role_at number)
    × (v.pushed ≡ of v.role (popped ++ items))
    × (v.role ≡ roles.Worker → (v.popped ≡ popped) × (v.passes ≡ passes))

-- the rule, of what the queue holds and of what each pass knows
abbrev pub IsKept : List Job → List View → Type 0
IsKept items views =
    (popped : List Job)
    × All (IsAllowed (length views)) (popped ++ items)
    × ((number : ℕ) (v : View) → get_elem? views number ≡ some v → Knows popped items (length views) number v)

-- a pass under which nothing was done
abbrev pub a_pass : Role → ℕ → View
a_pass role passes = record { role = role; pushed = []; popped = []; passes = passes }

-- the worker's pass comes first
abbrev pub the_first : View
the_first = a_pass roles.Worker 1

-- it gives the pass of the next role
abbrev pub next : View → View
next v = a_pass (role_at v.passes) 0

abbrev pub after_next : View → View
after_next v = record v { passes = v.passes + 1 }
