-- The link's seat with its room. This project's own.
use Rattle.std.specs.Prelude.{List}
use Rattle.kr_queue.specs.declared.jobs.Job.{Job}
use Rattle.kr_flow.specs.Flows.{Flow}

-- the jobs that were pushed, and the events among them that wait
pub record Seated : Type 0 where
  pub pushed : List Job
  pub flow : Flow
