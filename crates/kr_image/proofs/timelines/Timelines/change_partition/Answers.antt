use Rattle.std.proofs.Common.{◌∙◌, sym}
use Rattle.kr_image.specs.Timelines.{present_image}
use Rattle.kr_image.proofs.Rows.{ok_is, partition_changed}
use Rattle.kr_image.proofs.timelines.Timelines.change_partition.Goals as goal

pub returns-clause-changes : goal.returns-clause-changes
returns-clause-changes c =
    let row = partition_changed (present_image c.args.self.now) c.args.index.now c.args.topic.now c.args.change.now c.in-Some.old.now
    (sym c.has_topic.ensures ∙ c.if-not-has_topic.false)
    (sym (rw (c.timeline.ensures, c.key_of-key.ensures) at c.in-Some.ensures))
    (rw c.in_ok-state.ensures at (sym c.is_well_formed.ensures ∙ c.if-not-is_well_formed.false)) in
    let tip = rw (c.key_of-key.ensures, c.in_ok-state.ensures) at c.in_ok-set_partition.ensures.tip in
    row ∙ ok_is _ _ (sym tip)
