pub mod ClosedImages
pub mod NextPlaces
