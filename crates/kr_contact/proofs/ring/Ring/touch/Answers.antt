use Rattle.std.proofs.Common.{◌≡◌, refl, sym, ◌∙◌}
use Rattle.std.specs.Prelude.{Some, None}
use Rattle.std.specs.Map.{lookup}
use Rattle.std.specs.Ordering.{int_eq}
use Rattle.kr_contact.specs.Nodes.{moved_last, added_last}
use Rattle.kr_contact.proofs.Operations.{beside_known, last_known, moving, moving_known, adding, nowhere, room_left, no_contact, at_end}
use Rattle.kr_contact.proofs.ring.Ring.touch.Goals as goal

pub move_last-requires-clause-before : goal.move_last-requires-clause-before
move_last-requires-clause-before g c =
    let e : lookup (int_eq c.args.contact.now.broker) c.self.inside.places.entries ≡ Some c.in-Some.place = sym c.place_of.ensures ∙ c.in-Some.is in
    rw (c.self.inside.nodes.ok.0, ← c.self.invariant.0) (beside_known c.self.inside.first c.self.inside.nodes.items c.self.inside.places.entries _ c.self.invariant.1 c.args.contact.now.broker c.in-Some.place e).0

pub move_last-requires-clause-after : goal.move_last-requires-clause-after
move_last-requires-clause-after g c =
    let e : lookup (int_eq c.args.contact.now.broker) c.self.inside.places.entries ≡ Some c.in-Some.place = sym c.place_of.ensures ∙ c.in-Some.is in
    rw (c.self.inside.nodes.ok.0, ← c.self.invariant.0) (beside_known c.self.inside.first c.self.inside.nodes.items c.self.inside.places.entries _ c.self.invariant.1 c.args.contact.now.broker c.in-Some.place e).1

pub move_last-requires-clause-last : goal.move_last-requires-clause-last
move_last-requires-clause-last g c =
    let e : lookup (int_eq c.args.contact.now.broker) c.self.inside.places.entries ≡ Some c.in-Some.place = sym c.place_of.ensures ∙ c.in-Some.is in
    rw (c.self.inside.nodes.ok.0, ← c.self.invariant.0) (moving_known c.self.inside.first c.self.inside.nodes.items c.self.inside.places.entries _ c.self.invariant.1 c.args.contact.now.broker c.in-Some.place e c.args.contact.now)

pub invariant_of-self : goal.invariant_of-self
unfolding moved_last
invariant_of-self g c =
    let e : lookup (int_eq c.args.contact.now.broker) c.self.inside.places.entries ≡ Some c.in-Some.place = sym c.place_of.ensures ∙ c.in-Some.is in
    (c.self.invariant.0 ∙ sym c.move_last.ensures.in_place, rw (c.move_last.ensures.items, ← c.self.invariant.0) (moving c.self.inside.first c.self.inside.nodes.items c.self.inside.places.entries _ c.self.invariant.1 c.args.contact.now.broker c.in-Some.place e c.args.contact.now refl).0)

pub add_last-place-requires-clause-room : goal.add_last-place-requires-clause-room
add_last-place-requires-clause-room g c =
    let e : lookup (int_eq c.args.contact.now.broker) c.self.inside.places.entries ≡ None = sym c.place_of.ensures ∙ c.in-None.is in
    let none = nowhere c.self.inside.first c.self.inside.nodes.items c.self.inside.places.entries _ c.self.invariant.1 c.args.contact.now.broker e in
    let room = rw (← c.self.view_is) at c.requires in
    (room_left _ _ _ _ none room).0

pub add_last-place-requires-clause-last : goal.add_last-place-requires-clause-last
add_last-place-requires-clause-last g c =
    rw (c.self.inside.nodes.ok.0, ← c.self.invariant.0) (last_known c.self.inside.first c.self.inside.nodes.items c.self.inside.places.entries _ c.self.invariant.1)

pub put-requires-clause-room : goal.put-requires-clause-room
put-requires-clause-room g c =
    let e : lookup (int_eq c.args.contact.now.broker) c.self.inside.places.entries ≡ None = sym c.place_of.ensures ∙ c.in-None.is in
    let none = nowhere c.self.inside.first c.self.inside.nodes.items c.self.inside.places.entries _ c.self.invariant.1 c.args.contact.now.broker e in
    let room = rw (← c.self.view_is) at c.requires in
    (room_left _ _ _ _ none room).1

pub invariant_of-self-in-None : goal.invariant_of-self-in-None
unfolding added_last
invariant_of-self-in-None g c =
    let e : lookup (int_eq c.args.contact.now.broker) c.self.inside.places.entries ≡ None = sym c.place_of.ensures ∙ c.in-None.is in
    let at = at_end c.self.inside.first.at _ _ _ c.self.inside.nodes.items _ c.add_last-place.result c.self.invariant.0 c.self.inside.nodes.ok.0 c.add_last-place.ensures.len c.add_last-place.ensures.place in
    (c.self.invariant.0 ∙ sym c.add_last-place.ensures.in_place, rw (c.add_last-place.ensures.items, ← c.self.invariant.0) (adding c.self.inside.first c.self.inside.nodes.items c.self.inside.places.entries _ c.self.invariant.1 c.args.contact.now e c.add_last-place.result c.put.new.self.entries at c.put.ensures.entries c.put.ensures.len).0)

pub returns-in-Some-clause-contacts : goal.returns-in-Some-clause-contacts
unfolding moved_last
returns-in-Some-clause-contacts g c =
    let e : lookup (int_eq c.args.contact.now.broker) c.self.inside.places.entries ≡ Some c.in-Some.place = sym c.place_of.ensures ∙ c.in-Some.is in
    rw (c.move_last.ensures.items, ← c.self.invariant.0, ← c.self.view_is) (moving c.self.inside.first c.self.inside.nodes.items c.self.inside.places.entries _ c.self.invariant.1 c.args.contact.now.broker c.in-Some.place e c.args.contact.now refl).1

pub returns-in-None-clause-contacts : goal.returns-in-None-clause-contacts
unfolding added_last
returns-in-None-clause-contacts g c =
    let e : lookup (int_eq c.args.contact.now.broker) c.self.inside.places.entries ≡ None = sym c.place_of.ensures ∙ c.in-None.is in
    let at = at_end c.self.inside.first.at _ _ _ c.self.inside.nodes.items _ c.add_last-place.result c.self.invariant.0 c.self.inside.nodes.ok.0 c.add_last-place.ensures.len c.add_last-place.ensures.place in
    rw (c.add_last-place.ensures.items, ← c.self.invariant.0, ← c.self.view_is) (adding c.self.inside.first c.self.inside.nodes.items c.self.inside.places.entries _ c.self.invariant.1 c.args.contact.now e c.add_last-place.result c.put.new.self.entries at c.put.ensures.entries c.put.ensures.len).1

pub returns-in-None-clause-again : goal.returns-in-None-clause-again
returns-in-None-clause-again g c =
    let e : lookup (int_eq c.args.contact.now.broker) c.self.inside.places.entries ≡ None = sym c.place_of.ensures ∙ c.in-None.is in
    λ there. no_contact _ (nowhere c.self.inside.first c.self.inside.nodes.items c.self.inside.places.entries _ c.self.invariant.1 c.args.contact.now.broker e) (rw (← c.self.view_is) at there)
