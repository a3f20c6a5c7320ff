use Rattle.kr_image.proofs.PartitionLists.{marked_index}
use Rattle.kr_image.proofs.partition_timeline.PartitionTimeline.mark.Goals as goal

pub invariant_of-self : goal.invariant_of-self
invariant_of-self c = marked_index c.self.inside.index c.self.inside.timeline.maps c.mark.new.timeline.maps c.args.epoch.now c.self.invariant c.mark.ensures.kept c.mark.ensures.present
