use Rattle.std.proofs.Common.{w32}
use Rattle.std.proofs.lemmas.Int.{to_z-of_z}
use Rattle.kr_image.proofs.Places.{brokers_seen}
use Rattle.kr_image.proofs.store.ImageStoreStore.broker.Goals as goal

pub returns : goal.returns
returns c = rw (brokers_seen c.self.inside.timelines c.self.inside.kept.items c.self.inside.begun c.self.invariant c.args.self.now c.self.view_is c.args.at, to_z-of_z w32 c.args.id c.ranges.id) at c.find_at.ensures
