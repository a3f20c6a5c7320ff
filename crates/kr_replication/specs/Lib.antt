pub mod AgreeingNames
pub mod BrokerIds
pub mod ListedWalks
