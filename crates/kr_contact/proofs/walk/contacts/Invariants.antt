use Rattle.std.proofs.Common.{◌≡◌, ◌-◌, ◌≤◌, ◌++◌}
use Rattle.kr_contact.specs.Rings.{AreKnown, contacts_from}
use Rattle.kr_contact.proofs.walk.contacts.Given as goal

abbrev pub invariant-loop : goal.invariant-loop
invariant-loop l = record {
  known : AreKnown l.nodes.ptr l.nodes.items (l.count - l.counter) l.place;
  copied : l.contacts.items ++ contacts_from l.nodes.ptr l.nodes.items (l.count - l.counter) l.place ≡ contacts_from l.nodes.ptr l.nodes.items l.fn.count l.fn.from;
  within : l.counter ≤ l.count;
}
