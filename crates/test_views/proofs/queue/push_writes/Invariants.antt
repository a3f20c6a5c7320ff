use Rattle.std.proofs.Common.{◌≡◌}
use Rattle.kr_queue.specs.declared.passes.Role.TheVariants.{Client}
use Rattle.kr_queue.specs.Passes.{view, IsPassOf}
use Rattle.test_views.proofs.queue.push_writes.Given as goal

abbrev pub invariant-loop-ticket : goal.invariant-loop-ticket
invariant-loop-ticket g l = record { pass : IsPassOf l.queue l.pass; role : (view l.pass).role ≡ Client l.seat }
