-- The fields of the link's seat, as a clause sees them. This project's own.
use Rattle.std.specs.Prelude.{◌≡◌, List}
use Rattle.std.specs.Arc.{arc_value}
use Rattle.kr_queue.specs.declared.jobs.Job.{Job}
use Rattle.kr_queue.specs.declared.passes.Role.TheVariants as roles
use Rattle.kr_queue.specs.Passes.{view, IsPassOf}
use Rattle.kr_shared.specs.declared.links.LinkSeat.TheInside.{Inside}

abbrev pub pushed_by : Inside → List Job
pushed_by s = (view s.pass).pushed

abbrev pub IsLink : Inside → Type 0
IsLink s = IsPassOf (arc_value s.queue) s.pass × ((view s.pass).role ≡ roles.Link)
