pub mod BrokerPartitions
