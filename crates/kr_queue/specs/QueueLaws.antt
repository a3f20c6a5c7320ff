-- Each step of the queue keeps its rule. This project's own.
use Rattle.std.specs.Prelude.{◌≡◌, ℕ, List, [], ◌∷◌, ◌++◌, IsTrue, slice_set}
use Rattle.kr_queue.specs.declared.jobs.Job.{Job}
use Rattle.kr_queue.specs.declared.passes.Role.TheVariants as roles
use Rattle.kr_queue.specs.declared.passes.View.{View}
use Rattle.kr_queue.specs.Jobs.{may_push}
use Rattle.kr_queue.specs.QueueRule.{IsAllowed, IsKept, after_next, next, the_first}
use Rattle.kr_queue.specs.Steps.{IsMoment, with_popped, with_pushed}

-- it holds of an empty queue with the worker's pass alone
abbrev pub OpeningKeeps : Type 0
OpeningKeeps = IsKept [] (the_first ∷ [])

-- a job comes to the back, under a pass that may push it
abbrev pub PushKeeps : Type 0
PushKeeps =
    (items : List Job) (views : List View) (number : ℕ) (v : View) (job : Job)
    → IsMoment items views number v → IsTrue (may_push v.role job)
    → IsKept (items ++ job ∷ []) (slice_set views number (with_pushed v job))

-- the front leaves under the worker's pass, and one of the passes was allowed to push it
abbrev pub PopKeeps : Type 0
PopKeeps =
    (items : List Job) (views : List View) (number : ℕ) (v : View) (job : Job)
    → IsMoment (job ∷ items) views number v → v.role ≡ roles.Worker
    → IsKept items (slice_set views number (with_popped v job)) × IsAllowed v.passes job

-- the worker's pass gives the pass of the next role
abbrev pub PassKeeps : Type 0
PassKeeps =
    (items : List Job) (views : List View) (number : ℕ) (v : View)
    → IsMoment items views number v → v.role ≡ roles.Worker
    → IsKept items (slice_set views number (after_next v) ++ next v ∷ [])
