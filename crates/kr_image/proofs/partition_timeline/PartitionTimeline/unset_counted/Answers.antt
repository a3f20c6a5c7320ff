use Rattle.kr_image.proofs.PartitionLists.{unchanged_index, unset_index}
use Rattle.kr_image.proofs.partition_timeline.PartitionTimeline.unset_counted.Goals as goal

pub invariant_of-self : goal.invariant_of-self
invariant_of-self c = unchanged_index c.self.inside.index c.self.inside.timeline.maps c.unset_counted.new.timeline.maps c.self.invariant c.in_err-unset_counted.ensures.err c.unset_counted.ensures.kept

pub invariant_of-self-2 : goal.invariant_of-self-2
invariant_of-self-2 c = unset_index c.self.inside.index c.self.inside.timeline.maps c.unset_counted.new.timeline.maps c.args.key.now c.self.invariant c.in_ok-unset_counted.ensures.present c.unset_counted.ensures.kept
