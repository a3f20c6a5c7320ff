use Rattle.kr_image.proofs.PartitionLists.{grown_index, set_index, unchanged_index}
use Rattle.kr_image.proofs.partition_timeline.PartitionTimeline.set_counted.Goals as goal

pub add_next-requires : goal.add_next-requires
add_next-requires c = c.self.invariant.present

pub invariant_of-self : goal.invariant_of-self
invariant_of-self c = grown_index c.self.inside.index c.add_next.new.self c.self.inside.timeline.maps c.self.invariant c.add_next.ensures.grows

pub invariant_of-self-in_err-set_counted : goal.invariant_of-self-in_err-set_counted
invariant_of-self-in_err-set_counted c =
    let all = grown_index c.self.inside.index c.add_next.new.self c.self.inside.timeline.maps c.self.invariant c.add_next.ensures.grows in
    unchanged_index c.add_next.new.self c.self.inside.timeline.maps c.set_counted.new.timeline.maps all c.in_err-set_counted.ensures.err c.set_counted.ensures.kept

pub invariant_of-self-2 : goal.invariant_of-self-2
invariant_of-self-2 c =
    let all = grown_index c.self.inside.index c.add_next.new.self c.self.inside.timeline.maps c.self.invariant c.add_next.ensures.grows in
    set_index c.add_next.new.self c.self.inside.timeline.maps c.set_counted.new.timeline.maps c.args.key c.args.value all c.in_ok-add_next.ensures.own c.in_ok-set_counted.ensures.present c.set_counted.ensures.kept
