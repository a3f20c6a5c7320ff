-- What is to be pushed is an event of the link.
use Rattle.std.proofs.Common.{IsTrue}
use Rattle.kr_queue.specs.Jobs.{is_link_event}
use Rattle.kr_host.proofs.inlet.Inlet.push.Given as goal

abbrev pub invariant-loop : goal.invariant-loop
invariant-loop g l =
    (goal.iterator-loop g).can_next l.iterator' × (goal.iterator-loop g).is_finite l.iterator' × IsTrue (is_link_event l.event)
