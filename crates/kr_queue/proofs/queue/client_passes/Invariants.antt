use Rattle.std.proofs.Common.{◌≡◌, ◌+◌, length}
use Rattle.kr_queue.specs.declared.passes.Role.TheVariants.{Worker}
use Rattle.kr_queue.specs.QueueRule.{a_pass}
use Rattle.kr_queue.specs.Passes.{view, IsPassOf, AreClients}
use Rattle.kr_queue.proofs.queue.client_passes.Given as goal

abbrev pub invariant-loop : goal.invariant-loop
invariant-loop l = record {
  pass : IsPassOf l.queue l.worker;
  worker : view l.worker ≡ a_pass Worker (l.counter + 2);
  count : length l.passes ≡ l.counter;
  clients : AreClients l.queue l.passes;
}
