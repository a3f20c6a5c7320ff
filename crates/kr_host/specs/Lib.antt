pub mod Endings
pub mod Leading
pub mod Seated
pub mod Seats
pub mod Starts
pub mod Unpushed
pub mod Weights
pub mod inner
