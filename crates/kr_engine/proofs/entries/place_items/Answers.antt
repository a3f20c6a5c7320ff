use Rattle.std.proofs.Common.{◌≡◌, ◌∙◌, ◌∷◌, length, ap, arith}
use Rattle.std.specs.Vec.Iter.{into_iter_items}
use Rattle.kr_model.proofs.LogEntries.{in_room, next_place, placed_on}
use Rattle.kr_engine.proofs.entries.place_items.Goals as goal

pub go_on-requires : goal.go_on-requires
go_on-requires c =
    let at = c.loop-item in
    let steps : into_iter_items at.item-iterator ≡ c.in-Some.item ∷ into_iter_items c.next.new.self = c.in-Some.ensures.steps.0 in
    in_room at.next.place c.args.place.now (length (into_iter_items c.next.new.self)) _ (rw steps at at.invariant.at) c.requires.low (rw c.into_iter-item-iterator.ensures.into_iter_gives.0 (rw c.into_vec-item-items.ensures c.requires.few))

pub loop-item-preserved : goal.loop-item-preserved
loop-item-preserved c =
    let at = c.loop-item in
    let item = c.in-Some.item in
    let steps : into_iter_items at.item-iterator ≡ item ∷ into_iter_items c.next.new.self = c.in-Some.ensures.steps.0 in
    let gone = c.in-Some.ensures.steps.1 in
    let short = ap length steps in
    let was = at.invariant.count in
    record {
      out = rw c.go_on.ensures (placed_on _ _ _ at.next.place item (into_iter_items c.next.new.self) (rw c.item_entry.ensures at c.in_ok-push.ensures.items) (rw steps at at.invariant.out));
      at = rw c.go_on.ensures (next_place at.next.place (length (into_iter_items c.next.new.self)) ∙ rw steps at at.invariant.at);
      count = omega (arith, gone, short, was);
    }
