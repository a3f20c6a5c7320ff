pub mod Placing
pub mod Spread
