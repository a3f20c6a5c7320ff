use Rattle.kr_defs.proofs.TopicWalks.{topic_walks}
use Rattle.kr_defs.proofs.map_laws.topic_walks_pass_all.Goals as goal

pub returns : goal.returns
returns c = topic_walks
