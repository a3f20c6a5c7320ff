use Rattle.kr_store.specs.Images.{image_of_place}
use Rattle.kr_store.proofs.ShownImages.{is_there, seen_valid}
use Rattle.kr_store.proofs.seen.Seen.at.Goals as goal

pub invariant_of-result : goal.invariant_of-result
invariant_of-result g c =
    let images = g.S.Store.images c.args.store.now in
    (is_there (image_of_place images c.args.at) _ c.in_ok-counts_at.ensures.counts, seen_valid images c.args.at c.empty_is_valid.ensures c.in_ok-counts_at.ensures.valid)
