use Rattle.kr_image.proofs.Places.{partitions_seen}
use Rattle.kr_image.proofs.store.ImageStoreStore.next_partition.Goals as goal

pub returns : goal.returns
returns c = rw (c.timeline.ensures, partitions_seen c.self.inside.timelines c.self.inside.kept.items c.self.inside.begun c.self.invariant c.args.self.now c.self.view_is c.args.at) at c.next.ensures
