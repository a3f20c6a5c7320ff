-- The numbers of the causes why a record has no meaning (this project's own).
use Rattle.std.specs.Prelude.{ℕ}
use Rattle.kr_defs.specs.declared.ill.Ill.{Ill}
use Rattle.kr_defs.specs.declared.ill.Ill.TheVariants.{BadNumber, NoBroker, StaleEpoch, NoTopic, TopicExists, BadName, NoPartition, PartitionExists, BadPartition, Limit, BadTransaction}

abbrev pub number_of : Ill → ℕ
number_of BadNumber = 1
number_of NoBroker = 2
number_of StaleEpoch = 3
number_of NoTopic = 4
number_of TopicExists = 5
number_of BadName = 6
number_of NoPartition = 7
number_of PartitionExists = 8
number_of BadPartition = 9
number_of Limit = 10
number_of BadTransaction = 11
