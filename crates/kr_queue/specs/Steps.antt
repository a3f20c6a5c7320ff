-- What one step of the queue is: the rule held just before it of all passes and of what the queue held, and holds just after it. This project's own.
use Rattle.std.specs.Prelude.{◌≡◌, ℕ, List, [], ◌∷◌, ◌++◌, slice_set}
use mathlib.Core.Option.{some}
use lib.ListN.{get_elem?}
use Rattle.kr_queue.specs.declared.jobs.Job.{Job}
use Rattle.kr_queue.specs.declared.passes.View.{View}
use Rattle.kr_queue.specs.QueueRule.{IsKept, IsAllowed}

abbrev pub with_pushed : View → Job → View
with_pushed v job = record v { pushed = v.pushed ++ job ∷ [] }

abbrev pub with_popped : View → Job → View
with_popped v job = record v { popped = v.popped ++ job ∷ [] }

-- the queue held the items while the pass knew v, and the rule held
abbrev pub IsMoment : List Job → List View → ℕ → View → Type 0
IsMoment items views number v = IsKept items views × (get_elem? views number ≡ some v)

-- what the pass knows goes with a queue of just these items: the rule holds of them and of some passes, of which one knows v
abbrev pub Holds : View → List Job → Type 0
Holds v items = (views : List View) × (number : ℕ) × IsMoment items views number v

-- the job came to the back of what the queue held
abbrev pub IsPush : View → Job → View → Type 0
IsPush v job w =
    (w ≡ with_pushed v job)
    × ((items : List Job) × (views : List View) × (number : ℕ)
    × IsMoment items views number v
    × IsKept (items ++ job ∷ []) (slice_set views number w))

-- the job left the front of what the queue held, and one of the passes was allowed to push it
abbrev pub IsPop : View → Job → View → Type 0
IsPop v job w =
    (w ≡ with_popped v job)
    × IsAllowed v.passes job
    × ((items : List Job) × (views : List View) × (number : ℕ)
    × IsMoment (job ∷ items) views number v
    × IsKept items (slice_set views number w))
