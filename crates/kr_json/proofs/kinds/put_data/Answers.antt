use Rattle.kr_json.specs.Lines.{data_text}
use Rattle.kr_json.proofs.kinds.put_data.Goals as goal

pub returns-in-RegisterBroker : goal.returns-in-RegisterBroker
unfolding data_text
returns-in-RegisterBroker c = rw c.in-RegisterBroker.is c.put_register_broker.ensures

pub returns-in-Topic : goal.returns-in-Topic
unfolding data_text
returns-in-Topic c = rw c.in-Topic.is c.put_topic.ensures

pub returns-in-Partition : goal.returns-in-Partition
unfolding data_text
returns-in-Partition c = rw c.in-Partition.is c.put_partition.ensures

pub returns-in-PartitionChange : goal.returns-in-PartitionChange
unfolding data_text
returns-in-PartitionChange c = rw c.in-PartitionChange.is c.put_partition_change.ensures
