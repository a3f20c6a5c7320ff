use Rattle.std.proofs.Common.{ap, sym, ◌∙◌}
use Rattle.std.specs.Prelude.{flat_map}
use Rattle.std.specs.Option.{option_copied}
use Rattle.kr_defs.proofs.ImageParts.{text_total}
use Rattle.kr_defs.proofs.Walks.{walk_end, walk_less}
use Rattle.kr_view.specs.Listings.{listed}
use Rattle.kr_view.proofs.Filling.{filling, some_more, none_left, no_room}
use Rattle.kr_view.proofs.Listed.{topics_left}
use Rattle.kr_view.proofs.listing.list_topics.Goals as goal

pub loop-name-init : goal.loop-name-init
loop-name-init g c = filling _ _ _ c.requires

pub list_topic-requires : goal.list_topic-requires
list_topic-requires g c = c.loop-name.invariant.few

pub loop-name-preserved : goal.loop-name-preserved
loop-name-preserved g c =
    let p = c.args.listing.now in
    let image = c.args.seen.now in
    some_more _ _ _ _ _ c.loop-name.invariant _ _ _ c.in_ok-list_topic.ensures (topics_left (g.P.Listing.heads p) (g.P.Listing.rows p) image.partitions image.topics (option_copied c.loop-name.last) (c.in-Some.name.now, c.in-Some.id.now) c.is_valid.ensures.topics.ordered c.in-Some.ensures)

pub loop-name-smaller : goal.loop-name-smaller
loop-name-smaller g c = walk_less text_total c.args.seen.now.topics (option_copied c.loop-name.last) (c.in-Some.name.now, c.in-Some.id.now) c.is_valid.ensures.topics.ordered c.in-Some.ensures

pub returns-then-is_full : goal.returns-then-is_full
returns-then-is_full g c = no_room _ _ _ _ _ c.loop-name.invariant (sym c.is_full.ensures ∙ c.if-is_full.true)

pub returns : goal.returns
returns g c =
    let p = c.args.listing.now in
    let part = listed (g.P.Listing.heads p) (g.P.Listing.rows p) c.args.seen.now.partitions in
    none_left _ _ _ _ _ c.loop-name.invariant (ap (flat_map part) (walk_end _ (sym c.in_default.ensures)))
