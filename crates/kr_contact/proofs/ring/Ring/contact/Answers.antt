use Rattle.std.proofs.Common.{◌≡◌, sym, ◌∙◌}
use Rattle.std.specs.Prelude.{Some, None}
use Rattle.std.specs.Map.{lookup}
use Rattle.std.specs.Ordering.{int_eq}
use Rattle.kr_contact.proofs.Operations.{found, unfound}
use Rattle.kr_contact.proofs.ring.Ring.contact.Goals as goal

pub returns-in-Some : goal.returns-in-Some
returns-in-Some c =
    let e : lookup (int_eq c.args.broker.now) c.self.inside.places.entries ≡ Some c.in-Some.place = sym c.place_of.ensures ∙ c.in-Some.is in
    rw (c.contact_in.ensures, c.read.ensures, ← c.self.invariant.0, ← c.self.view_is) (found c.self.inside.first c.self.inside.nodes.items c.self.inside.places.entries _ c.self.invariant.1 c.args.broker.now c.in-Some.place e)

pub returns-in-None : goal.returns-in-None
returns-in-None c =
    let e : lookup (int_eq c.args.broker.now) c.self.inside.places.entries ≡ None = sym c.place_of.ensures ∙ c.in-None.is in
    rw (← c.self.view_is) (unfound c.self.inside.first c.self.inside.nodes.items c.self.inside.places.entries _ c.self.invariant.1 c.args.broker.now e)
