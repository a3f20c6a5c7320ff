use Rattle.kr_image.specs.Timelines.{present_image}
use Rattle.kr_image.proofs.TopicCounts.{topics_counted}
use Rattle.kr_image.proofs.Index.{index_set}
use Rattle.kr_image.proofs.timelines.Timelines.set_topic.Goals as goal

pub returns-clause-agrees : goal.returns-clause-agrees
returns-clause-agrees c =
    let is = index_set c.args.self.now.names.maps.present c.args.self.now.topics.maps.present c.args.name.now c.args.id.now c.requires.agrees.index c.requires.name c.requires.id in
    record {
      counts = topics_counted c.args.self.now.counts (present_image c.args.self.now) c.set_counted.new.count c.set_counted.new.timeline.maps.present c.requires.agrees.counts c.in_ok-set_counted.ensures.counted;
      index = rw (c.in_ok-set_counted.ensures.present, c.in_ok-set.ensures.present, c.in_ok-key.ensures, c.in_ok-copied.ensures) is;
    }
