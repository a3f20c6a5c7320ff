use Rattle.std.proofs.Common.{◌≡◌, ◌+◌, ◌-◌, ◌≤◌, ◌++◌}
use Rattle.kr_contact.specs.Rings.{AreKnown, contacts_from}
use Rattle.kr_contact.proofs.ring.copy_contacts.Given as goal

abbrev pub invariant-loop : goal.invariant-loop
invariant-loop g l = record {
  known : AreKnown l.nodes.ptr l.nodes.items (l.count - l.counter) l.place;
  copied : l.to.contacts ++ contacts_from l.nodes.ptr l.nodes.items (l.count - l.counter) l.place ≡ l.initial.to.contacts ++ contacts_from l.nodes.ptr l.nodes.items l.fn.count l.fn.from;
  room : l.count - l.counter ≤ l.to.spare;
  spare : l.initial.to.spare ≤ l.to.spare + l.counter;
  within : l.counter ≤ l.count;
}
