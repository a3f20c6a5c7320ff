use Rattle.kr_image.proofs.PartitionLists.{forgotten_index}
use Rattle.kr_image.proofs.partition_timeline.PartitionTimeline.forget_below.Goals as goal

pub invariant_of-self : goal.invariant_of-self
invariant_of-self g c = forgotten_index c.self.inside.index c.self.inside.timeline.maps c.forget_below.new.timeline.maps c.args.epoch.now c.self.invariant c.forget_below.ensures.kept c.forget_below.ensures.present
