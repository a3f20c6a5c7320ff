use Rattle.std.proofs.Common.{List, ℕ, ap, sym}
use Rattle.std.specs.Prelude.{flat_map}
use Rattle.std.specs.Option.{option_copied}
use Rattle.kr_defs.specs.Map.{above, text_order}
use Rattle.kr_defs.specs.Records.{topic_records}
use Rattle.kr_defs.proofs.ImageParts.{text_total}
use Rattle.kr_defs.proofs.Walks.{walk_less, walk_next, walk_end}
use Rattle.kr_snapshot.proofs.WriterRecords.{amid_may, amid_more, amid_end}
use Rattle.kr_snapshot.proofs.walking.put_topics.Goals as goal

pub put_topic-requires : goal.put_topic-requires
put_topic-requires g c =
    let image = c.args.seen.now in
    let entry : List ℕ × ℕ = (c.in-Some.name.now, c.in-Some.id.now) in
    let left = ap (flat_map (topic_records image.partitions)) (walk_next text_total image.topics (option_copied c.loop-name.after) entry c.is_valid.ensures.topics.ordered (sym c.in-Some.ensures)) in
    amid_may _ _ _ _ c.loop-name.invariant (topic_records image.partitions entry) _ left c.requires

pub loop-name-preserved : goal.loop-name-preserved
loop-name-preserved g c =
    let image = c.args.seen.now in
    let entry : List ℕ × ℕ = (c.in-Some.name.now, c.in-Some.id.now) in
    let left = ap (flat_map (topic_records image.partitions)) (walk_next text_total image.topics (option_copied c.loop-name.after) entry c.is_valid.ensures.topics.ordered (sym c.in-Some.ensures)) in
    amid_more _ _ _ _ c.loop-name.invariant _ (topic_records image.partitions entry) _ left c.in_ok-put_topic.ensures

pub loop-name-smaller : goal.loop-name-smaller
loop-name-smaller g c =
    walk_less text_total c.args.seen.now.topics (option_copied c.loop-name.after) (c.in-Some.name.now, c.in-Some.id.now) c.is_valid.ensures.topics.ordered c.in-Some.ensures

pub returns : goal.returns
returns g c =
    let image = c.args.seen.now in
    amid_end _ _ _ _ c.loop-name.invariant (ap (flat_map (topic_records image.partitions)) (walk_end (above text_order image.topics (option_copied c.loop-name.after)) (sym c.in_default.ensures)))
