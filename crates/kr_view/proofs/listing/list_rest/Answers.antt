use Rattle.kr_view.proofs.Listed.{rest_listed}
use Rattle.kr_view.proofs.listing.list_rest.Goals as goal

pub returns : goal.returns
returns g c =
    let p = c.args.listing.now in
    rest_listed (g.P.Listing.heads p) (g.P.Listing.rows p) c.args.seen.now c.args.name.now c.args.index.now _ _ c.in-Some.topic.now _ c.in-Some.ensures (rw c.key_of.ensures at c.in_ok-list_above.ensures)
