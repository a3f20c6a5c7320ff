use Rattle.std.proofs.Common.{◌≡◌, ◌≤◌, drop}
use Rattle.std.specs.Prelude.{◌+ℤ◌, pos}
use Rattle.kr_engine.proofs.ItemSteps.{Applying}
use Rattle.kr_engine.proofs.apply.apply_items.Given as goal

abbrev pub invariant-loop-item : goal.invariant-loop-item
invariant-loop-item g l =
    let images = g.S.Store.images in
    record {
      applying : Applying (images l.fn.store) (images l.store) l.place l.next.place l.items (drop l.item-index l.items) l.item-index;
      later : l.fn.steps ≤ l.steps;
      at : l.next.place ≡ l.place +ℤ pos l.item-index;
    }
