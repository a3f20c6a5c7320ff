use Rattle.std.proofs.Common.{◌≡◌, w32, false}
use Rattle.std.specs.List.{list_any}
use Rattle.std.specs.Ordering.{int_eq}
use Rattle.std.proofs.lemmas.Int.{to_z-of_z}
use Rattle.kr_place.proofs.Brokers.{distinct-push}
use Rattle.kr_place.proofs.racked.Racked.push.Goals as goal

pub invariant_of-self-2 : goal.invariant_of-self-2
invariant_of-self-2 c =
    let fresh : list_any (λ broker. int_eq c.args.id broker.0) c.self.inside.list.items ≡ false = rw c.self.view_is c.requires in
    distinct-push c.self.inside.list.items _ (c.args.id, c.args.rack) (rw (to_z-of_z w32 c.args.id c.ranges.id) at c.in_ok-push.ensures.items) c.self.invariant fresh
