use Rattle.std.proofs.Common.{◌∙◌, sym, ap}
use Rattle.kr_image.specs.Timelines.{present_image}
use Rattle.kr_image.proofs.Rows.{ok_is, partition_added}
use Rattle.kr_image.proofs.timelines.Timelines.add_partition.Goals as goal

pub returns-clause-changes : goal.returns-clause-changes
returns-clause-changes c =
    let counted = ap (λ n. n.partitions) c.requires.agrees.counts in
    let row = partition_added (present_image c.args.self.now) c.args.index.now c.args.topic.now c.args.state.now
    (sym c.has_topic.ensures ∙ c.if-not-has_topic.false)
    (sym c.is_index.ensures ∙ c.if-not-is_index.false)
    (rw (c.timeline.ensures, c.key_of-key.ensures) at (sym c.contains.ensures ∙ c.if-contains.false))
    (sym c.is_well_formed.ensures ∙ c.if-not-is_well_formed.false)
    (rw counted at (sym c.is_full.ensures ∙ c.if-is_full.false)) in
    let tip = rw (c.key_of-key.ensures, c.in_ok-copied.ensures) at c.in_ok-set_partition.ensures.tip in
    row ∙ ok_is _ _ (sym tip)
