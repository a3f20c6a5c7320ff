use Rattle.std.proofs.Common.{◌≡◌}
use Rattle.kr_queue.specs.declared.passes.Role.TheVariants.{Worker}
use Rattle.kr_queue.specs.Passes.{view, IsPassOf}
use Rattle.test_views.proofs.queue.pop_writes.Given as goal

abbrev pub invariant-loop : goal.invariant-loop
invariant-loop g l = record { pass : IsPassOf l.queue l.pass; role : (view l.pass).role ≡ Worker }
