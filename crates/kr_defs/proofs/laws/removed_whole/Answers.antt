use Rattle.kr_defs.proofs.Logs.{topic_gone, partitions_gone, configs_gone}
use Rattle.kr_defs.proofs.laws.removed_whole.Goals as goal

pub returns-clause-topic : goal.returns-clause-topic
returns-clause-topic c image after id is = topic_gone image id after is

pub returns-clause-partitions : goal.returns-clause-partitions
returns-clause-partitions c image after id is = partitions_gone image id after is

pub returns-clause-configs : goal.returns-clause-configs
returns-clause-configs c image after id name is named = configs_gone image id name named after is
