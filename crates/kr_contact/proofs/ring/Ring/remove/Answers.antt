use Rattle.std.proofs.Common.{◌≡◌, sym, ◌∙◌}
use Rattle.std.specs.Prelude.{Some, None}
use Rattle.std.specs.Map.{lookup}
use Rattle.std.specs.Ordering.{int_eq}
use Rattle.kr_contact.proofs.Operations.{beside_known, removal, there, nowhere, all_left}
use Rattle.kr_contact.proofs.ring.Ring.remove.Goals as goal

pub unlink-requires-clause-before : goal.unlink-requires-clause-before
unlink-requires-clause-before g c =
    let r = c.self.invariant.1 in
    let e : lookup (int_eq c.args.broker.now) c.self.inside.places.entries ≡ Some c.in-Some.place = sym c.take.ensures.value ∙ c.in-Some.is in
    let known = beside_known c.self.inside.first c.self.inside.nodes.items c.self.inside.places.entries _ r c.args.broker.now c.in-Some.place e in
    rw (c.self.inside.nodes.ok.0, ← c.self.invariant.0) known.0

pub unlink-requires-clause-after : goal.unlink-requires-clause-after
unlink-requires-clause-after g c =
    let r = c.self.invariant.1 in
    let e : lookup (int_eq c.args.broker.now) c.self.inside.places.entries ≡ Some c.in-Some.place = sym c.take.ensures.value ∙ c.in-Some.is in
    let known = beside_known c.self.inside.first c.self.inside.nodes.items c.self.inside.places.entries _ r c.args.broker.now c.in-Some.place e in
    rw (c.self.inside.nodes.ok.0, ← c.self.invariant.0) known.1

pub invariant_of-self : goal.invariant_of-self
invariant_of-self g c =
    let r = c.self.invariant.1 in
    let e : lookup (int_eq c.args.broker.now) c.self.inside.places.entries ≡ Some c.in-Some.place = sym c.take.ensures.value ∙ c.in-Some.is in
    let gone = removal c.self.inside.first c.self.inside.nodes.items c.self.inside.places.entries _ r c.args.broker.now c.in-Some.place e c.take.new.self.entries c.take.ensures.entries c.in-Some.ensures.len in
    (c.self.invariant.0 ∙ sym c.unlink.ensures.in_place, rw (c.unlink.ensures.items, ← c.self.invariant.0) gone.0)

pub returns-in-Some-clause-was : goal.returns-in-Some-clause-was
returns-in-Some-clause-was g c =
    let r = c.self.invariant.1 in
    let e : lookup (int_eq c.args.broker.now) c.self.inside.places.entries ≡ Some c.in-Some.place = sym c.take.ensures.value ∙ c.in-Some.is in
    rw (← c.self.view_is) (there c.self.inside.first c.self.inside.nodes.items c.self.inside.places.entries _ r c.args.broker.now c.in-Some.place e)

pub returns-in-Some-clause-contacts : goal.returns-in-Some-clause-contacts
returns-in-Some-clause-contacts g c =
    let r = c.self.invariant.1 in
    let e : lookup (int_eq c.args.broker.now) c.self.inside.places.entries ≡ Some c.in-Some.place = sym c.take.ensures.value ∙ c.in-Some.is in
    let gone = removal c.self.inside.first c.self.inside.nodes.items c.self.inside.places.entries _ r c.args.broker.now c.in-Some.place e c.take.new.self.entries c.take.ensures.entries c.in-Some.ensures.len in
    rw (c.unlink.ensures.items, ← c.self.invariant.0, ← c.self.view_is) gone.1

pub returns-in-None-clause-was : goal.returns-in-None-clause-was
returns-in-None-clause-was g c =
    let r = c.self.invariant.1 in
    let e : lookup (int_eq c.args.broker.now) c.self.inside.places.entries ≡ None = sym c.take.ensures.value ∙ c.in-None.is in
    rw (← c.self.view_is) (nowhere c.self.inside.first c.self.inside.nodes.items c.self.inside.places.entries _ r c.args.broker.now e)

pub returns-in-None-clause-contacts : goal.returns-in-None-clause-contacts
returns-in-None-clause-contacts g c =
    let r = c.self.invariant.1 in
    let e : lookup (int_eq c.args.broker.now) c.self.inside.places.entries ≡ None = sym c.take.ensures.value ∙ c.in-None.is in
    rw (c.in-None.ensures.none, ← c.self.view_is) (all_left c.self.inside.first c.self.inside.nodes.items c.self.inside.places.entries _ r c.args.broker.now e)
