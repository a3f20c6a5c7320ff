-- What is pushed where a controller leads alone. This project's own.
use Rattle.std.specs.Prelude.{◌≡◌, ◌≤ℤ◌, ℤ, pos, List, [], ◌∷◌, ◌++◌}
use Rattle.kr_calls.specs.declared.events.Event.TheVariants as events
use Rattle.kr_queue.specs.declared.jobs.Job.{Job}
use Rattle.kr_queue.specs.declared.jobs.Job.TheVariants as jobs

-- a Lead in epoch 1 from place 0, at some time
pub record PushesLead (old new : List Job) : Type 0 where
  pub now : ℤ
  pub natural : pos 0 ≤ℤ now
  pub pushed : new ≡ old ++ jobs.Link (events.Lead (pos 1) (pos 0) now) ∷ []
