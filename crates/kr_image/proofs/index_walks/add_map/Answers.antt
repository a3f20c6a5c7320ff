use Rattle.std.proofs.Common.{[]}
use Rattle.std.specs.Prelude.{unwrap_or}
use Rattle.std.specs.Option.{option_copied}
use Rattle.kr_defs.proofs.ImageParts.{partition_total}
use Rattle.kr_defs.proofs.Walks.{walk_less}
use Rattle.kr_image.specs.inner.TimelineMaps.{entries_at}
use Rattle.kr_image.proofs.IndexedMaps.{grows_itself, grows_on}
use Rattle.kr_image.proofs.MapWalks.{map_ordered, still_all, still_more}
use Rattle.kr_image.proofs.index_walks.add_map.Goals as goal

pub loop-key-init : goal.loop-key-init
loop-key-init c = record { still = λ later grows is. is; grows = grows_itself c.args.index.now }

pub loop-key-preserved : goal.loop-key-preserved
loop-key-preserved c =
    let maps = c.args.timeline.now.maps in
    let partitions = unwrap_or (entries_at maps c.args.at) [] in
    record {
      still = still_more partitions (option_copied c.loop-key.after) (c.in-Some.key.now, c.in-Some.partition.now) c.loop-key.index c.add.new.self (map_ordered maps c.args.at c.epochs.ensures.present c.epochs.ensures.kept) c.in-Some.ensures c.in_ok-add.ensures.own c.add.ensures.grows c.loop-key.invariant.still;
      grows = grows_on c.args.index.now c.loop-key.index c.add.new.self c.loop-key.invariant.grows c.add.ensures.grows;
    }

pub loop-key-smaller : goal.loop-key-smaller
loop-key-smaller c =
    let maps = c.args.timeline.now.maps in
    let partitions = unwrap_or (entries_at maps c.args.at) [] in
    walk_less partition_total partitions (option_copied c.loop-key.after) (c.in-Some.key.now, c.in-Some.partition.now) (map_ordered maps c.args.at c.epochs.ensures.present c.epochs.ensures.kept) c.in-Some.ensures

pub returns-clause-lists : goal.returns-clause-lists
returns-clause-lists c =
    let partitions = unwrap_or (entries_at c.args.timeline.now.maps c.args.at) [] in
    still_all partitions (option_copied c.loop-key.after) c.loop-key.index c.in_default.ensures c.loop-key.invariant.still
