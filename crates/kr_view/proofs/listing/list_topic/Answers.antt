use Rattle.kr_view.proofs.Filling.{few_taken}
use Rattle.kr_view.proofs.Listed.{topic_listed}
use Rattle.kr_view.proofs.listing.list_topic.Goals as goal

pub list_above-requires : goal.list_above-requires
list_above-requires g c = few_taken _ _ _ c.in_ok-list_head.ensures

pub returns : goal.returns
returns g c =
    let p = c.args.listing.now in
    topic_listed (g.P.Listing.heads p) (g.P.Listing.rows p) c.args.seen.now.partitions (c.args.name.now, c.args.id.now) _ _ _ _ c.is_valid.ensures.partitions.indexes c.in_ok-list_head.ensures (rw c.before_all.ensures at c.in_ok-list_above.ensures)
