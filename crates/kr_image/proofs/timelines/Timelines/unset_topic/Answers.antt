use Rattle.std.proofs.Common.{◌∙◌, ap, List, ℕ}
use Rattle.kr_image.specs.Timelines.{present_image}
use Rattle.kr_image.proofs.TopicCounts.{topics_counted}
use Rattle.kr_image.proofs.Index.{index_gone, name_removed}
use Rattle.kr_image.proofs.timelines.Timelines.unset_topic.Goals as goal

pub returns-clause-tip : goal.returns-clause-tip
returns-clause-tip c =
    let gone = c.in_ok-unset_counted.ensures.present ∙ name_removed c.args.self.now.names.maps.present c.args.name.now c.args.id.now c.requires.valid.topics.ordered c.requires.valid.topics.distinct c.requires.named in
    ap (λ (names : List (List ℕ × ℕ)). record (present_image c.args.self.now) { topics = names }) gone

pub returns-clause-agrees : goal.returns-clause-agrees
returns-clause-agrees c =
    let gone = c.in_ok-unset_counted.ensures.present ∙ name_removed c.args.self.now.names.maps.present c.args.name.now c.args.id.now c.requires.valid.topics.ordered c.requires.valid.topics.distinct c.requires.named in
    record {
      counts = topics_counted c.args.self.now.counts (present_image c.args.self.now) c.unset_counted.new.count c.unset_counted.new.timeline.maps.present c.requires.agrees.counts c.in_ok-unset_counted.ensures.counted;
      index = rw (gone, c.in_ok-unset.ensures.present) (index_gone c.args.self.now.names.maps.present c.args.self.now.topics.maps.present c.args.id.now c.requires.agrees.index);
    }
