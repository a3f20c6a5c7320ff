use Rattle.std.proofs.Common.{w32}
use Rattle.std.proofs.lemmas.Int.{to_z-of_z}
use Rattle.kr_image.proofs.Places.{partitions_seen}
use Rattle.kr_image.proofs.store.ImageStoreStore.partition.Goals as goal

pub returns : goal.returns
returns c = rw (c.timeline.ensures, partitions_seen c.self.inside.timelines c.self.inside.kept.items c.self.inside.begun c.self.invariant c.args.self.now c.self.view_is c.args.at, to_z-of_z w32 c.args.index c.ranges.index) at c.find_at.ensures
