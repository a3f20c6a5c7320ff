use Rattle.std.proofs.Common.{◌≡◌}
use Rattle.std.specs.Prelude.{Some, None}
use Rattle.kr_queue.specs.declared.jobs.Job.{Job}
use Rattle.kr_shared.proofs.worker.WorkerSeat.new.Goals as goal

pub invariant_of-result : goal.invariant_of-result
invariant_of-result c = record {
  pass = c.requires.pass;
  role = c.requires.role;
  stands = c.requires.stands;
  rests = λ late. c.requires.rests;
  stays = λ (job : Job) (none : None ≡ Some job). absurd cc;
}
