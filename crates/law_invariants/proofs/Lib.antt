pub mod AllStates
pub mod DecidedHeartbeats
pub mod ImageSizes
pub mod KeptPlaces
pub mod WholeStates
