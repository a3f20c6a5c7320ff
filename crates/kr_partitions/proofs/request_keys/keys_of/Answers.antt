use Rattle.kr_partitions.proofs.RequestKeys.{topic_more}
use Rattle.kr_partitions.proofs.request_keys.keys_of.Goals as goal

pub loop-topic-preserved : goal.loop-topic-preserved
loop-topic-preserved g c = λ k.
    topic_more c.args.seen.now.topics c.args.topics.now c.loop-topic.topic-index c.topic-item.result k _ _ c.loop-topic-test.true c.topic-item.is (c.loop-topic.invariant k) (c.in_ok-add_topic.ensures k)
