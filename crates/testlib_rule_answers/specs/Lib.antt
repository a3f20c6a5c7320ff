pub mod ChangeWords
pub mod HeartbeatWords
pub mod Histories
pub mod PlaceWords
