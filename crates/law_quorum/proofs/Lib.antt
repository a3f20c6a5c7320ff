pub mod Places
pub mod KeptLog
pub mod LeadershipOrder
pub mod WholeHistories
pub mod ReadKeys
pub mod FedNodes
