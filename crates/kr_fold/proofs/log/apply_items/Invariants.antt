use Rattle.std.proofs.Common.{drop}
use Rattle.kr_fold.proofs.ItemSteps.{Applying}
use Rattle.kr_fold.proofs.log.apply_items.Given as goal

abbrev pub invariant-loop-item : goal.invariant-loop-item
invariant-loop-item g l =
    let images = g.S.Store.images in
    Applying (images l.fn.store) (images l.store) l.place l.next.place l.items (drop l.item-index l.items) l.item-index
