use Rattle.std.specs.Option.{option_copied}
use Rattle.kr_defs.specs.Lookups.{entry_copied}
use Rattle.kr_image.specs.inner.TimelineMaps.{entries_at}
use Rattle.kr_image.proofs.MapWalks.{next_found, next_missing}
use Rattle.kr_image.proofs.index_walks.next_partition.Goals as goal

pub returns-in-Ok : goal.returns-in-Ok
returns-in-Ok c = next_found (entries_at c.args.timeline.now.maps c.args.at) (option_copied c.args.after) (entry_copied c.in-Ok.found) c.in-Ok.ensures

pub returns-in-Err : goal.returns-in-Err
returns-in-Err c = next_missing (entries_at c.args.timeline.now.maps c.args.at) (option_copied c.args.after) c.in-Err.ensures
