use Rattle.std.proofs.Common.{length}
use Rattle.std.specs.Prelude.{flat_map}
use Rattle.std.specs.Option.{option_copied}
use Rattle.kr_defs.specs.Map.{above, text_order}
use Rattle.kr_view.specs.Listings.{listed}
use Rattle.kr_view.proofs.Filling.{IsFilling}
use Rattle.kr_view.proofs.listing.list_topics.Given as goal

abbrev pub invariant-loop-name : goal.invariant-loop-name
invariant-loop-name g l =
    let image = l.seen in
    let part = listed (g.P.Listing.heads l.listing) (g.P.Listing.rows l.listing) image.partitions in
    IsFilling l.most l.fn.rows (flat_map part (above text_order image.topics (option_copied l.fn.after))) l.rows (flat_map part (above text_order image.topics (option_copied l.last)))

abbrev pub decreases-loop-name : goal.decreases-loop-name
decreases-loop-name g l = length (above text_order l.seen.topics (option_copied l.last))
