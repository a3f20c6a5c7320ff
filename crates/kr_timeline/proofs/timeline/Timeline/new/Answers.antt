use Rattle.kr_timeline.proofs.Histories.{timeline_none}
use Rattle.kr_timeline.proofs.timeline.Timeline.new.Goals as goal

pub invariant_of-result : goal.invariant_of-result
invariant_of-result g c = timeline_none g.K.Ord.cmp c.new.result.entries c.new-2.result.items c.new-3.result.items c.new.ensures.empty c.new-2.ensures.items c.new-3.ensures.items
