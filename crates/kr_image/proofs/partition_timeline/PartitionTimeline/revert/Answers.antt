use Rattle.kr_image.proofs.PartitionLists.{reverted_index}
use Rattle.kr_image.proofs.partition_timeline.PartitionTimeline.revert.Goals as goal

pub invariant_of-self : goal.invariant_of-self
invariant_of-self g c = reverted_index c.self.inside.index c.self.inside.timeline.maps c.revert.new.timeline.maps c.args.epoch.now c.self.invariant c.revert.ensures.kept c.revert.ensures.present
