-- The fields of the worker's seat, as a clause sees them. This project's own.
use Rattle.std.specs.Prelude.{◌≡◌, false, Some, IsTrue}
use Rattle.std.specs.Arc.{arc_value}
use Rattle.kr_queue.specs.declared.jobs.Job.{Job}
use Rattle.kr_queue.specs.declared.passes.Role.TheVariants as roles
use Rattle.kr_queue.specs.Jobs.{is_fit}
use Rattle.kr_queue.specs.Passes.{view, IsPassOf}
use Rattle.kr_shared.specs.declared.worker.WorkerSeat.TheInside.{Inside}
use Rattle.kr_shared.specs.Desks.{IsCaughtUp, DeskStands, settled}
use Rattle.kr_shared.specs.Turns.{Bench}

abbrev pub bench_of : Inside → Bench
bench_of w = record {
  knows = view w.pass;
  work = settled w.desk;
  shown = w.desk.shelf.list;
  stays = w.stays;
  events = w.events;
  refusal = w.refusal;
  stopped = w.stopped;
  late = w.late;
}

-- its pass is the worker's, it stands for some state, nothing is due unless it is late, and a job that stays is fit
pub record IsWorker (w : Inside) : Type 0 where
  pub pass : IsPassOf (arc_value w.queue) w.pass
  pub role : (view w.pass).role ≡ roles.Worker
  pub stands : DeskStands w.desk
  pub rests : w.late ≡ false → IsCaughtUp w.desk
  pub stays : (job : Job) → w.stays ≡ Some job → IsTrue (is_fit job)
