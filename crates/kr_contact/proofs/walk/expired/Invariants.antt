use Rattle.std.proofs.Common.{◌≡◌, ◌+◌, ◌-◌, ◌≤◌, ◌++◌, length}
use Rattle.kr_contact.specs.Contacts.{expired_among}
use Rattle.kr_contact.specs.Rings.{AreKnown, contacts_from}
use Rattle.kr_contact.proofs.walk.expired.Given as goal

abbrev pub invariant-loop : goal.invariant-loop
invariant-loop g l = record {
  known : AreKnown l.nodes.ptr l.nodes.items (l.count - l.counter) l.place;
  given : l.brokers ++ expired_among (contacts_from l.nodes.ptr l.nodes.items (l.count - l.counter) l.place) l.limit ≡ expired_among (contacts_from l.nodes.ptr l.nodes.items l.fn.count l.fn.from) l.limit;
  counted : l.steps + length (expired_among (contacts_from l.nodes.ptr l.nodes.items (l.count - l.counter) l.place) l.limit) ≡ l.initial.steps + length (expired_among (contacts_from l.nodes.ptr l.nodes.items l.fn.count l.fn.from) l.limit);
  within : l.counter ≤ l.count;
}
