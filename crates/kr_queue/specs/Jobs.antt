-- Whose a job is, and which jobs may be pushed. This project's own.
use Rattle.std.specs.Prelude.{◌&&◌, ◌==◌, Bool, true, false, not, List, filter}
use Rattle.kr_calls.specs.Decide.{is_read}
pub use Rattle.kr_calls.specs.LinkEvents.{is_link_event}
use Rattle.kr_queue.specs.declared.jobs.Job.{Job}
use Rattle.kr_queue.specs.declared.jobs.Job.TheVariants as jobs
use Rattle.kr_queue.specs.declared.passes.Role.{Role}
use Rattle.kr_queue.specs.declared.passes.Role.TheVariants as roles

-- events and stops are the link's jobs, the others are those of the client with their seat
abbrev pub is_of : Role → Job → Bool
is_of roles.Link (jobs.Link event) = true
is_of roles.Link (jobs.Stop number) = true
is_of (roles.Client seat) (jobs.Write own ticket floor call) = own == seat
is_of (roles.Client seat) (jobs.Pin own ticket floor) = own == seat
is_of (roles.Client seat) (jobs.Unpin own ticket floor place) = own == seat
is_of role job = false

-- the jobs of the role, in order
abbrev pub of : Role → List Job → List Job
of role jobs = filter (is_of role) jobs

-- what the link brings is no request, and what a client brings is no read
abbrev pub is_fit : Job → Bool
is_fit (jobs.Link event) = is_link_event event
is_fit (jobs.Stop number) = true
is_fit (jobs.Write seat ticket floor call) = not (is_read call.request)
is_fit (jobs.Pin seat ticket floor) = true
is_fit (jobs.Unpin seat ticket floor place) = true

-- the job may be pushed under a pass of the role
abbrev pub may_push : Role → Job → Bool
may_push role job = is_of role job && is_fit job
