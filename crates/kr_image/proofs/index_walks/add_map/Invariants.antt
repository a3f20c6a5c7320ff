use Rattle.std.proofs.Common.{length, []}
use Rattle.std.specs.Prelude.{unwrap_or}
use Rattle.std.specs.Option.{option_copied}
use Rattle.kr_defs.specs.Map.{above, partition_order}
use Rattle.kr_image.specs.inner.PartitionKeys.{IndexGrows}
use Rattle.kr_image.specs.inner.TimelineMaps.{entries_at}
use Rattle.kr_image.proofs.MapWalks.{StillIndex}
use Rattle.kr_image.proofs.index_walks.add_map.Given as goal

abbrev pub invariant-loop-key : goal.invariant-loop-key
invariant-loop-key l =
    let partitions = unwrap_or (entries_at l.timeline.maps l.at) [] in
    record {
      still : StillIndex partitions (above partition_order partitions (option_copied l.after)) l.index;
      grows : IndexGrows l.fn.index l.index;
    }

abbrev pub decreases-loop-key : goal.decreases-loop-key
decreases-loop-key l =
    let partitions = unwrap_or (entries_at l.timeline.maps l.at) [] in
    length (above partition_order partitions (option_copied l.after))
