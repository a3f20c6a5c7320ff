use Rattle.std.proofs.Common.{◌≡◌, ◌++◌, length}
use Rattle.std.specs.List.{flat_map}
use Rattle.std.specs.Option.{option_copied}
use Rattle.kr_defs.specs.Map.{above, text_order}
use Rattle.kr_listing.proofs.gathering.add_topics.Given as goal

abbrev pub invariant-loop-name : goal.invariant-loop-name
invariant-loop-name g l =
    let image = l.seen in
    let part = g.P.TopicPart.part l.part image in
    l.rows ++ flat_map part (above text_order image.topics (option_copied l.after)) ≡ l.fn.rows ++ flat_map part image.topics

abbrev pub decreases-loop-name : goal.decreases-loop-name
decreases-loop-name g l = length (above text_order l.seen.topics (option_copied l.after))
