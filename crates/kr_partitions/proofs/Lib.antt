pub mod GroupedElections
pub mod LeaderlessElections
pub mod OngoingRows
pub mod RequestKeys
pub mod ReportedMembers
pub mod WholeTopics
