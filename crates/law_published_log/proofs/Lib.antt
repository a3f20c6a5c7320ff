pub mod Lists
pub mod Shown
pub mod Decided
pub mod Evolving
