use Rattle.kr_image.proofs.PartitionLists.{restored_index, unchanged_index}
use Rattle.kr_image.proofs.partition_timeline.PartitionTimeline.restore.Goals as goal

pub invariant_of-self : goal.invariant_of-self
invariant_of-self c = unchanged_index c.self.inside.index c.self.inside.timeline.maps c.restore.new.timeline.maps c.self.invariant c.in_err-restore.ensures.err c.restore.ensures.kept

pub invariant_of-self-2 : goal.invariant_of-self-2
invariant_of-self-2 c = restored_index c.self.inside.index c.self.inside.timeline.maps c.restore.new.timeline.maps c.args.epoch.now c.self.invariant c.restore.ensures.kept c.in_ok-restore.ensures.present
