use Rattle.kr_contact.proofs.Operations.{walk_known}
use Rattle.kr_contact.proofs.ring.Ring.contacts.Goals as goal

pub contacts-requires : goal.contacts-requires
contacts-requires c =
    rw (c.read.ensures, c.len.ensures, ← c.self.invariant.0) (walk_known c.self.inside.first c.self.inside.nodes.items c.self.inside.places.entries _ c.self.invariant.1)
