use Rattle.kr_contact.proofs.Operations.{walk_known, walk_single}
use Rattle.kr_contact.proofs.ring.Ring.copy_into.Goals as goal

pub copy_contacts-requires-clause-known : goal.copy_contacts-requires-clause-known
copy_contacts-requires-clause-known g c =
    rw (c.read.ensures, c.len.ensures, ← c.self.invariant.0) (walk_known c.self.inside.first c.self.inside.nodes.items c.self.inside.places.entries _ c.self.invariant.1)

pub copy_contacts-requires-clause-single : goal.copy_contacts-requires-clause-single
copy_contacts-requires-clause-single g c =
    rw (c.requires.empty, c.read.ensures, c.len.ensures, ← c.self.invariant.0) (walk_single c.self.inside.first c.self.inside.nodes.items c.self.inside.places.entries c.self.invariant.1)
