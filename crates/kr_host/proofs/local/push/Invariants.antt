-- Nothing was pushed yet, and what is to be pushed is the event of the link.
use Rattle.std.proofs.Common.{◌≡◌, IsTrue}
use Rattle.kr_queue.specs.Jobs.{is_link_event}
use Rattle.kr_host.proofs.local.push.Given as goal

abbrev pub invariant-loop : goal.invariant-loop
invariant-loop g l =
    (goal.iterator-loop g).can_next l.iterator' × (goal.iterator-loop g).is_finite l.iterator' × IsTrue (is_link_event l.event) × (l.event ≡ l.fn.event) × (l.seat.pushed ≡ l.fn.seat.pushed)
